-- `shown_marks` meets its contract: the two answers are the definition's. Assumes nothing.
use Rattle.format.proofs.Laws.{steps}
use Rattle.receiver_status.specs.Status.{shown_marks}
use Rattle.receiver_status.proofs.status.shown_marks.Goals as goal

pub returns-then-block : goal.returns-then-block
unfolding shown_marks
returns-then-block c = search steps

pub returns : goal.returns
unfolding shown_marks
returns c = simp c.oldest_marks.ensures (search steps)
