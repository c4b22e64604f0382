-- The table of answers: the first of its rows that applies. Assumes nothing.
use Rattle.std.specs.Prelude.{ℕ, Bool}
use Rattle.format.specs.Pick.{pick}
use Rattle.events.specs.declared.events.Event.{Event}
use Rattle.chip_device.specs.declared.device.Device.{Device}
use Rattle.chip_refusals.specs.Rows.{unsound, register_above15, forbidden_read, forbidden_command}
use Rattle.chip_refusals.specs.Rows.{setting_not_modelled, acknowledged_unasserted}

-- "Checked in this order.": the first of six rows that applies, by their tests, and what comes after them where none
-- does
abbrev pub six_rows : Bool → Bool → Bool → Bool → Bool → Bool → ℕ → ℕ
six_rows a b c d e f after = pick a 1 (pick b 2 (pick c 3 (pick d 4 (pick e 5 (pick f 6 after)))))

unfoldable pub first_of : Device → Event → ℕ → ℕ
first_of d e after =
    six_rows (unsound d) (register_above15 e) (forbidden_read e) (forbidden_command e) (setting_not_modelled d.front e)
    (acknowledged_unasserted d e) after
