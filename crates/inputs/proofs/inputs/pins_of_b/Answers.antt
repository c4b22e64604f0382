-- `pins_of_b` meets its contract: it is what its callees answer. Assumes nothing.
use Rattle.inputs.specs.Inputs.{pins_of_b}
use Rattle.inputs.proofs.inputs.pins_of_b.Goals as goal

pub returns : goal.returns
unfolding pins_of_b
returns c = simp c.channel_pins.ensures
