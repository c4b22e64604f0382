-- `enter` meets its contract: the callee's test chooses whether the sums grow. Assumes nothing.
use Rattle.format.proofs.Laws.{steps}
use Rattle.receiver_state.specs.Arrivals.{entered_of}
use Rattle.receiver_state.proofs.arrivals.enter.Goals as goal

pub returns-then-is_empty : goal.returns-then-is_empty
unfolding entered_of
returns-then-is_empty c = simp (c.or_marks-sums.ensures, ← c.is_empty.ensures, c.put-q.ensures) (search steps)

pub returns : goal.returns
unfolding entered_of
returns c = simp (← c.is_empty.ensures, c.put-q.ensures) (search steps)
