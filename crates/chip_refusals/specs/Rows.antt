-- The rows of the table of answers, each by itself: rows 1 to 6. Row 7 looks at the new state, and stands in Chip of
-- chip_step. Assumes nothing.
use Rattle.std.specs.Prelude.{ℕ, Bool, false, not, ◌&&◌, ◌||◌, eqb, ltb}
use Rattle.format.specs.Pick.{pick}
use Rattle.events.specs.declared.events.Event.{Event}
use Rattle.events.specs.declared.events.Event.TheVariants.{ChipReset, Read, Write, Acknowledge, Pins, Tick}
use Rattle.events.specs.Command.{command_forbidden}
use Rattle.outputs.specs.Outputs.{opcr_not_modelled}
use Rattle.front_side.specs.Side.{mode_not_modelled}
use Rattle.front.specs.declared.front.Front.{Front}
use Rattle.chip_answers.specs.Answers.{asserted_of}
use Rattle.chip_device.specs.declared.device.Device.{Device}
use Rattle.chip_device.specs.Device.{is_sound_of, shown_a, shown_b}

-- 1: "the state given is unsound"
abbrev pub unsound : Device → Bool
unsound d = not (is_sound_of d)

-- 2: "register above 15"
unfoldable pub register_above15 : Event → Bool
register_above15 ChipReset = false
register_above15 (Read n) = ltb 15 n
register_above15 (Write n byte) = ltb 15 n
register_above15 Acknowledge = false
register_above15 (Pins levels) = false
register_above15 Tick = false

-- 3: "read of register 2 or 10"
unfoldable pub forbidden_read : Event → Bool
forbidden_read ChipReset = false
forbidden_read (Read n) = eqb n 2 || eqb n 10
forbidden_read (Write n byte) = false
forbidden_read Acknowledge = false
forbidden_read (Pins levels) = false
forbidden_read Tick = false

-- 4: "command whose bits 3-2 or 1-0 are 11"; a command is a write of register 2 or 10
unfoldable pub forbidden_command : Event → Bool
forbidden_command ChipReset = false
forbidden_command (Read n) = false
forbidden_command (Write n byte) = (eqb n 2 || eqb n 10) && command_forbidden byte
forbidden_command Acknowledge = false
forbidden_command (Pins levels) = false
forbidden_command Tick = false

-- a setting not modelled can be chosen in MR1 or MR2, where that channel's pointer is, and in OPCR
unfoldable pub write_not_modelled : Front → ℕ → ℕ → Bool
write_not_modelled f n byte =
    pick (eqb n 0) (mode_not_modelled f.a byte)
    (pick (eqb n 8) (mode_not_modelled f.b byte)
    (pick (eqb n 13) (opcr_not_modelled byte)
    false))

-- 5: "a write .. choosing a setting not modelled"
unfoldable pub setting_not_modelled : Front → Event → Bool
setting_not_modelled f ChipReset = false
setting_not_modelled f (Read n) = false
setting_not_modelled f (Write n byte) = write_not_modelled f n byte
setting_not_modelled f Acknowledge = false
setting_not_modelled f (Pins levels) = false
setting_not_modelled f Tick = false

abbrev pub device_asserted : Device → Bool
device_asserted d = asserted_of d.front (shown_a d) (shown_b d)

-- 6: "acknowledge while IRQ is not asserted"
unfoldable pub acknowledged_unasserted : Device → Event → Bool
acknowledged_unasserted d ChipReset = false
acknowledged_unasserted d (Read n) = false
acknowledged_unasserted d (Write n byte) = false
acknowledged_unasserted d Acknowledge = not (device_asserted d)
acknowledged_unasserted d (Pins levels) = false
acknowledged_unasserted d Tick = false
