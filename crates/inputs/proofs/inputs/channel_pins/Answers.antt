-- `channel_pins` meets its contract: it is what its callees answer. Assumes nothing.
use Rattle.inputs.proofs.inputs.channel_pins.Goals as goal

pub returns : goal.returns
returns c = simp (c.falls.ensures, c.rises.ensures, c.has_bit-2.ensures, c.has_bit.ensures)
