-- `fresh_transmitter` meets its contract: it is what its callees answer. Assumes nothing.
use Rattle.transmitter_state.proofs.state.fresh_transmitter.Goals as goal

pub returns : goal.returns
returns c = simp c.empty_shifter.ensures
