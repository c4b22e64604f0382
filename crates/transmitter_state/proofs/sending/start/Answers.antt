-- `start` meets its contract: it is what its callees answer. Assumes nothing.
use Rattle.transmitter_state.proofs.sending.start.Goals as goal

pub returns : goal.returns
returns c = simp c.take_frame-shifter.ensures
