-- `pulse_timer` meets its contract: each way through the tests is the definition's. Assumes nothing.
use Rattle.format.proofs.Laws.{steps}
use Rattle.timer_state.specs.Counting.{timer_pulsed}
use Rattle.timer_state.proofs.counting.pulse_timer.Goals as goal

pub returns-then-count-eq0 : goal.returns-then-count-eq0
unfolding timer_pulsed
returns-then-count-eq0 c = search steps

pub returns : goal.returns
unfolding timer_pulsed
returns c = search steps
