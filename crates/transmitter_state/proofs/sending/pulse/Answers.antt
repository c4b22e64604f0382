-- `pulse` meets its contract: each way through the tests is the definition's, with the callee's answer. Assumes nothing.
use Rattle.format.proofs.Laws.{steps}
use Rattle.transmitter_state.specs.Sending.{sent_on_of, pulsed_of}
use Rattle.transmitter_state.proofs.sending.pulse.Goals as goal

pub returns-then-transmitter : goal.returns-then-transmitter
unfolding pulsed_of sent_on_of
returns-then-transmitter c =
    simp (c.level_of-level.ensures, c.bit_of_pulse-bit.ensures) (search steps)

pub pulse_between-requires : goal.pulse_between-requires
pulse_between-requires c = search steps

pub pulse_between-requires-2 : goal.pulse_between-requires-2
pulse_between-requires-2 c = search steps
