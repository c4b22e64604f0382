-- `count_on` meets its contract: what goes back to the count when the pulses are added is the count less them. Assumes nothing.
use native.Mathlib.Omega.{arith}
use Rattle.timer.proofs.Laws.Passing.{counted_back}
use Rattle.timer.proofs.passing.count_on.Goals as goal

pub returns : goal.returns
returns c = counted_back _ _ (omega arith)
