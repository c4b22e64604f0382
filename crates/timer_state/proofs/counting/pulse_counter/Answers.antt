-- `pulse_counter` meets its contract: each way through the tests is the definition's. Assumes nothing.
use Rattle.format.proofs.Laws.{steps}
use Rattle.timer_state.specs.Counting.{counter_pulsed}
use Rattle.timer_state.proofs.counting.pulse_counter.Goals as goal

pub returns-then-timer : goal.returns-then-timer
unfolding counter_pulsed
returns-then-timer c = search steps

pub returns : goal.returns
unfolding counter_pulsed
returns c = search steps
