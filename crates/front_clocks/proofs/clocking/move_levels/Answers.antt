-- `move_levels` meets its contract: it is what its callees answer. Assumes nothing.
use Rattle.front_clocks.specs.Clocking.{levels_moved}
use Rattle.front_clocks.proofs.clocking.move_levels.Goals as goal

pub returns : goal.returns
unfolding levels_moved
returns c = simp (c.clock.ensures, c.move_pins-inputs.ensures)
