-- `clock_with` meets its contract: it is what its callees answer. Assumes nothing.
use Rattle.front_clocks.specs.Clocking.{clocked_with}
use Rattle.front_clocks.proofs.clocking.clock_with.Goals as goal

pub returns : goal.returns
unfolding clocked_with
returns c = simp (c.step_by_transmitter-counter.ensures, c.mode_of.ensures)
