-- `step_by_edge` meets its contract: it is what its callees answer. Assumes nothing.
use Rattle.timer.specs.Timer.{edged_by}
use Rattle.timer.proofs.timer.step_by_edge.Goals as goal

pub returns : goal.returns
unfolding edged_by
returns c = simp (c.pulse_by.ensures, c.edge_pulses.ensures, c.divide_by_16-divided.ensures)
