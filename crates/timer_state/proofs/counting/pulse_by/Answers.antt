-- `pulse_by` meets its contract: each way through the tests is the definition's, with the callee's answer. Assumes nothing.
use Rattle.format.proofs.Laws.{steps}
use Rattle.timer_state.specs.Counting.{pulsed_by}
use Rattle.timer_state.proofs.counting.pulse_by.Goals as goal

pub returns-then-is_timer : goal.returns-then-is_timer
unfolding pulsed_by
returns-then-is_timer c = simp (c.pulse_timer.ensures, ← c.is_timer.ensures) (search steps)

pub returns-then-pulse : goal.returns-then-pulse
unfolding pulsed_by
returns-then-pulse c = simp (c.pulse_counter.ensures, ← c.is_timer.ensures) (search steps)

pub returns : goal.returns
unfolding pulsed_by
returns c = search steps
