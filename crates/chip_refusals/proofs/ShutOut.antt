-- Wrong answers, each shut out by a definition: a routine that gave it would not meet its contract. Assumes nothing.
use Prim.Native.Nat.{ℕ}
use mathlib.Core.Path.{◌≡◌}
use mathlib.Core.Bool.{true, ◌||◌, true≢false, false≢true}
use native.Mathlib.Omega.{arith}
use lib.Dec.{eqb}
use Rattle.format.specs.Format.{format_of}
use Rattle.format.specs.Pick.{pick}
use Rattle.byte_bits.specs.Bytes.{weight_of, byte_of}
use Rattle.timer_state.specs.Counting.{fresh_timer}
use Rattle.front_side.specs.Side.{fresh_side, with_modes, mode_not_modelled}
use Rattle.front_modes.specs.Modes.{sender_shown}
use Rattle.chip_shown.specs.Shown.{received_of, shown_of}
use Rattle.front.specs.declared.front.Front.{Front}
use Rattle.front.specs.Front.{front_at, with_sides}
use Rattle.chip_answers.specs.Answers.{asserted_of}
use Rattle.events.specs.declared.events.Event.TheVariants.{ChipReset, Write, Acknowledge, Tick}
use Rattle.events.specs.Command.{command_forbidden}
use Rattle.chip_device.specs.declared.device.Device.{Device}
use Rattle.chip_device.specs.Device.{fresh_device}
use Rattle.chip_device.proofs.Examples.{five_flags}
use Rattle.chip_refusals.specs.Rows.{register_above15, forbidden_read, forbidden_command, write_not_modelled, setting_not_modelled, device_asserted, acknowledged_unasserted}
use Rattle.chip_refusals.specs.Refusals.{first_of}

-- A's pointer at MR2, B's at MR1
abbrev apart : Front
apart = with_sides (front_at 255) (with_modes fresh_side 0 0 true) fresh_side fresh_timer

-- "command whose bits 3-2 or 1-0 are 11": this one refuses every command, and every write of such a byte
no_every_command_refused :
    ((n byte : ℕ) → ((eqb n 2 || eqb n 10) || command_forbidden byte) ≡ forbidden_command (Write n byte)) → ⊥
unfolding forbidden_command
no_every_command_refused h = true≢false (h 2 0)

-- "8-11 as 0-3 for channel B": 24 is not modelled in MR1, and is in MR2
no_judged_by_pointer_a : ((f : Front) (byte : ℕ) → mode_not_modelled f.a byte ≡ write_not_modelled f 8 byte) → ⊥
unfolding write_not_modelled mode_not_modelled fresh_side front_at pick
no_judged_by_pointer_a h = false≢true (h apart 24)

-- "acknowledge while IRQ is not asserted": this one refuses it while IRQ is
no_asserted_refused : ((d : Device) → device_asserted d ≡ acknowledged_unasserted d Acknowledge) → ⊥
unfolding acknowledged_unasserted asserted_of shown_of sender_shown received_of byte_of weight_of fresh_device front_at fresh_side pick
no_asserted_refused h = false≢true (h fresh_device)

-- "refusing all (the table's "exactly when")"
no_six_for_none : 6 ≡ first_of fresh_device Tick 0 → ⊥
unfolding first_of register_above15 forbidden_read forbidden_command setting_not_modelled acknowledged_unasserted fresh_device front_at fresh_side format_of pick
no_six_for_none = omega arith

-- "the state given is unsound": this one accepts an event that would mend it
no_mended_accepted : 0 ≡ first_of five_flags ChipReset 0 → ⊥
unfolding first_of fresh_device front_at fresh_side pick
no_mended_accepted = omega arith
