-- `falls` meets its contract: it is what its callees answer. Assumes nothing.
use Rattle.inputs.proofs.inputs.falls.Goals as goal

pub returns : goal.returns
returns c = simp (c.has_bit-2.ensures, c.has_bit.ensures)
