-- `pins_of_a` meets its contract: it is what its callees answer. Assumes nothing.
use Rattle.inputs.specs.Inputs.{pins_of_a}
use Rattle.inputs.proofs.inputs.pins_of_a.Goals as goal

pub returns : goal.returns
unfolding pins_of_a
returns c = simp c.channel_pins.ensures
