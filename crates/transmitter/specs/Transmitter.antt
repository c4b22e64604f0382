-- One transmitter, and what an input does to it. Assumes nothing.
use Rattle.transmitter_state.specs.declared.state.Transmitter.{Transmitter}
use Rattle.transmitter_state.specs.State.{fresh_transmitter}
use Rattle.transmitter_state.specs.Sending.{pulsed_of}
use Rattle.transmitter.specs.declared.transmitter.Input.{Input}
use Rattle.transmitter.specs.declared.transmitter.Input.TheVariants.{Nothing, Pulse, Write, Enable, Disable}
use Rattle.transmitter.specs.declared.transmitter.Input.TheVariants.{StartBreak, StopBreak, Reset, ChipReset}
use Rattle.transmitter.specs.declared.transmitter.Input.TheVariants.{ModeChange}
use Rattle.transmitter.specs.Commands.{written_of, enabled_of, break_ended, disabled_of, reset_of, break_asked}
use Rattle.transmitter.specs.Commands.{sending_dropped}

unfoldable pub after_input : Transmitter → Input → Transmitter
after_input t Nothing = t
after_input t (Pulse s) = pulsed_of t s
after_input t (Write byte) = written_of t byte
after_input t Enable = enabled_of t
after_input t Disable = disabled_of t
after_input t StartBreak = break_asked t
after_input t StopBreak = break_ended t
after_input t Reset = reset_of t
after_input t ChipReset = fresh_transmitter
after_input t ModeChange = sending_dropped t
