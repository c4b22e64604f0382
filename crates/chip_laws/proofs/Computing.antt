-- One name for what a proof by computing unfolds: what the chip makes of its events. It says nothing by itself.
use mathlib.Core.Bool.{Bool, true}
use Rattle.receiver.proofs.Computing as Receivers
use Rattle.transmitter.proofs.Computing as Transmitters
use Rattle.byte_bits.specs.Bytes.{has_bit, weight_of, byte_of}
use Rattle.dividers.specs.Divider.{divided_of, sixteenth_of}
use Rattle.dividers.specs.Rates.{period_of}
use Rattle.clocks.specs.Channel.{restarted_on_change, ticked_of, side_of, transmitter1x}
use Rattle.clocks.specs.Channel as in_clocks
use Rattle.timer_state.specs.Counting.{counter_pulsed, timer_pulsed, pulsed_by}
use Rattle.timer.specs.Timer.{ticked_by, edged_by, started_of, stopped_of, mode_changed}
use Rattle.inputs.specs.Inputs.{moved_of, pins_of_a, pins_of_b}
use Rattle.outputs.specs.Outputs.{driven_by, driven_op3, op_levels}
use Rattle.front_side.specs.Side.{fresh_side, mode_register, mode_not_modelled, mode_written, csr_written, set_changed}
use Rattle.front_side.specs.Side.{buffer_written}
use Rattle.front_modes.specs.Modes.{txd_shown, sender_shown, mode_set, mode_feed}
use Rattle.front_side_clocks.specs.Clocking.{transmitter_pulsed, echo_taken, pulse_of, line_of, side_clocked}
use Rattle.front_commands.specs.Commands.{transmitter_effect, receiver_effect, transmitter_enabling, receiver_enabling}
use Rattle.front_commands.specs.Commands.{side_commanded, command_feed}
use Rattle.front.specs.Front.{front_at}
use Rattle.front_clocks.specs.Clocking.{counted_of, clocked_with, levels_moved}
use Rattle.front_clocks.specs.Clocking as in_front_clocks
use Rattle.front_writes.specs.Writes.{side_written, acr_written, shared_written, register_written}
use Rattle.front_reads.specs.Reads.{side_read, shared_read, register_read, front_data}
use Rattle.front_events.specs.FrontEvents.{front_stepped}
use Rattle.chip_shown.specs.Shown.{received_of, shown_of}
use Rattle.chip_answers.specs.Answers.{asserted_of, timer_level, lines_of, register_data, event_data, register_fresh, event_fresh}
use Rattle.chip_device.specs.Device.{fresh_device}
use Rattle.chip_refusals.specs.Rows.{register_above15, forbidden_read, forbidden_command, write_not_modelled}
use Rattle.chip_refusals.specs.Rows.{setting_not_modelled, acknowledged_unasserted}
use Rattle.chip_refusals.specs.Refusals.{first_of}
use Rattle.chip_step.specs.Chip.{taken_of, number_of, refusal_lines, step_of}
use Rattle.chip_laws.specs.Sound.{after}

unfoldable pub computing : Bool
unfolding Receivers.computing Transmitters.computing has_bit weight_of byte_of divided_of sixteenth_of period_of
    restarted_on_change ticked_of side_of transmitter1x in_clocks.clocked_of counter_pulsed timer_pulsed pulsed_by ticked_by
    edged_by started_of stopped_of mode_changed moved_of pins_of_a pins_of_b driven_by driven_op3 op_levels fresh_side mode_register
    mode_not_modelled mode_written csr_written set_changed buffer_written txd_shown sender_shown mode_set mode_feed
    transmitter_pulsed echo_taken pulse_of line_of side_clocked
    transmitter_effect receiver_effect transmitter_enabling receiver_enabling side_commanded command_feed front_at counted_of
    clocked_with in_front_clocks.clocked_of levels_moved side_written acr_written shared_written register_written side_read
    shared_read register_read front_data front_stepped received_of shown_of asserted_of timer_level lines_of register_data
    event_data register_fresh event_fresh fresh_device register_above15 forbidden_read forbidden_command write_not_modelled setting_not_modelled
    acknowledged_unasserted first_of taken_of number_of refusal_lines step_of after
computing = true
