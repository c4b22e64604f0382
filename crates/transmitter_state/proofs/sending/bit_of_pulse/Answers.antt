-- `bit_of_pulse` meets its contract: each way through the tests is the definition's. Assumes nothing.
use Rattle.format.proofs.Laws.{steps}
use Rattle.transmitter_state.specs.Sending.{bit_of_pulse}
use Rattle.transmitter_state.proofs.sending.bit_of_pulse.Goals as goal

pub returns-then-sixteen : goal.returns-then-sixteen
unfolding bit_of_pulse
returns-then-sixteen c = search steps

pub returns : goal.returns
unfolding bit_of_pulse
returns c = search steps
