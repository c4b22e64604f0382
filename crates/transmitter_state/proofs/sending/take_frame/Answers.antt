-- `take_frame` meets its contract: it is what its callees answer. Assumes nothing.
use Rattle.transmitter_state.specs.Sending.{taken_of}
use Rattle.transmitter_state.proofs.sending.take_frame.Goals as goal

pub returns : goal.returns
unfolding taken_of
returns c = cc
