-- `read` meets its contract: the callee's test chooses, as the definition's does. Assumes nothing.
use Rattle.format.proofs.Laws.{steps}
use Rattle.receiver.specs.Receiver.{read_of}
use Rattle.receiver.proofs.receiver.read.Goals as goal

pub returns-then-is_empty : goal.returns-then-is_empty
unfolding read_of
returns-then-is_empty c = simp (← c.is_empty.ensures) (search steps)

pub returns : goal.returns
unfolding read_of
returns c = simp (c.read_oldest.ensures, c.oldest-top.ensures, ← c.is_empty.ensures) (search steps)
