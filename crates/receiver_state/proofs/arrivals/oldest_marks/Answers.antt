-- `oldest_marks` meets its contract: the callee's test chooses, as the definition's does. Assumes nothing.
use Rattle.format.proofs.Laws.{steps}
use Rattle.receiver_state.specs.Arrivals.{oldest_marks}
use Rattle.receiver_state.proofs.arrivals.oldest_marks.Goals as goal

pub returns-then-is_empty : goal.returns-then-is_empty
unfolding oldest_marks
returns-then-is_empty c = simp (c.no_marks.ensures, ← c.is_empty.ensures) (search steps)

pub returns : goal.returns
unfolding oldest_marks
returns c = simp (c.oldest-c.ensures, ← c.is_empty.ensures) (search steps)
