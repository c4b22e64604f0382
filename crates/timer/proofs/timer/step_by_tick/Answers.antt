-- `step_by_tick` meets its contract: it is what its callees answer. Assumes nothing.
use Rattle.timer.specs.Timer.{ticked_by}
use Rattle.timer.proofs.timer.step_by_tick.Goals as goal

pub returns : goal.returns
unfolding ticked_by
returns c = simp (c.pulse_by.ensures, c.tick_pulses.ensures, c.divide-divided.ensures)
