-- `transmitter_status` meets its contract: it is what its callees answer. Assumes nothing.
use Rattle.transmitter.proofs.status.transmitter_status.Goals as goal

pub returns : goal.returns
returns c = simp c.shifter_empty.ensures
