-- `clock` meets its contract: it is what its callees answer. Assumes nothing.
use Rattle.front_clocks.specs.Clocking.{clocked_of}
use Rattle.front_clocks.proofs.clocking.clock.Goals as goal

pub returns : goal.returns
unfolding clocked_of
returns c = simp (c.clock_with.ensures, c.clock_side-b.ensures, c.pins_of_b.ensures, c.clock_side-a.ensures, c.pins_of_a.ensures, c.count-counted.ensures)
