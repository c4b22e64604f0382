-- `stop_counter` meets its contract: each way through the tests is the definition's, with the callee's answer. Assumes nothing.
use Rattle.format.proofs.Laws.{steps}
use Rattle.timer.specs.Timer.{stopped_of}
use Rattle.timer.proofs.timer.stop_counter.Goals as goal

pub returns-then-is_timer : goal.returns-then-is_timer
unfolding stopped_of
returns-then-is_timer c = simp (← c.is_timer.ensures) (search steps)

pub returns : goal.returns
unfolding stopped_of
returns c = simp (← c.is_timer.ensures) (search steps)
