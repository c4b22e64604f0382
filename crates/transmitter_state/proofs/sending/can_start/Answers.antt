-- `can_start` meets its contract: it is what its callees answer. Assumes nothing.
use Rattle.transmitter_state.proofs.sending.can_start.Goals as goal

pub returns : goal.returns
returns c = simp c.clear_to_send.ensures
