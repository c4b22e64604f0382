-- `read_oldest` meets its contract: the queue, its oldest and the sums are the callees'. Assumes nothing.
use Rattle.receiver.specs.Receiver.{oldest_read}
use Rattle.receiver.proofs.receiver.read_oldest.Goals as goal

pub returns : goal.returns
unfolding oldest_read
returns c = simp (c.or_marks-sums.ensures, c.oldest_marks.ensures, c.take_oldest-queue.ensures, c.oldest-top.ensures)
