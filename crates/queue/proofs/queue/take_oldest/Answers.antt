-- `take_oldest` meets its contract: each place takes over the next one's character. Assumes nothing.
use Rattle.format.proofs.Laws.{steps}
use Rattle.queue.specs.Queue.{took_of}
use Rattle.queue.proofs.queue.take_oldest.Goals as goal

pub returns-then-queue-eq0 : goal.returns-then-queue-eq0
unfolding took_of
returns-then-queue-eq0 c = search steps

pub returns : goal.returns
unfolding took_of
returns c = search steps
