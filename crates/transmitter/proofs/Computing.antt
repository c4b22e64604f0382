-- One name for what a proof by computing unfolds: what a transmitter makes of its inputs. It says nothing by itself.
use mathlib.Core.Bool.{Bool, true}
use Rattle.frame.proofs.Computing as Frames
use Rattle.transmitter_state.specs.Sending.{pulsed_of, taken_of, begun_of, bit_of_pulse, sent_on_of, held_high}
use Rattle.transmitter.specs.Commands.{written_of, break_ended, dropped_of, break_asked}
use Rattle.transmitter.specs.Transmitter.{after_input}
use Rattle.transmitter.specs.Frames.{after, pulses_in}

unfoldable pub computing : Bool
unfolding Frames.computing pulsed_of taken_of begun_of bit_of_pulse sent_on_of held_high written_of break_ended dropped_of
    break_asked after_input after pulses_in
computing = true
