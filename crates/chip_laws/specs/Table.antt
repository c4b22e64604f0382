-- "Given exactly when .. Checked in this order. Refused: data 0, the state as given, lines as that state drives them
-- (for 1, all lines 0)." Assumes nothing.
use Rattle.std.specs.Prelude.{ℕ, ◌<◌, ◌≡◌, Bool, true, false, eqb}
use Rattle.format.specs.Pick.{pick}
use Rattle.chip_answers.specs.Answers.{no_lines}
use Rattle.events.specs.declared.events.Event.{Event}
use Rattle.chip_device.specs.declared.device.Device.{Device}
use Rattle.chip_step.specs.declared.chip.Answer.{Answer}
use Rattle.chip_device.specs.Device.{device_lines}
use Rattle.chip_step.specs.Chip.{taken_of, new_unsound, accepted_of}
use Rattle.chip_refusals.specs.Rows.{unsound, register_above15, forbidden_read, forbidden_command, setting_not_modelled}
use Rattle.chip_refusals.specs.Rows.{acknowledged_unasserted}

-- a way to answer an event
abbrev pub Step : Type 0
Step = Device → Event → Answer

-- Rows 1 to 7 by their numbers, each its own predicate: 0 is acceptance, and row 8 is the frame request's.
unfoldable pub row : ℕ → Device → Event → Bool
row k d e =
    pick (eqb k 1) (unsound d)
    (pick (eqb k 2) (register_above15 e)
    (pick (eqb k 3) (forbidden_read e)
    (pick (eqb k 4) (forbidden_command e)
    (pick (eqb k 5) (setting_not_modelled d.front e)
    (pick (eqb k 6) (acknowledged_unasserted d e)
    (pick (eqb k 7) (new_unsound d e)
    false))))))

-- Row k applies, and no earlier one. (Row 7 never does: `never_seven`.)
pub record First (k : ℕ) (d : Device) (e : Event) : Type 0 where
  pub applies : row k d e ≡ true
  pub earlier : (j : ℕ) → j < k → row j d e ≡ false

pub record Table (step : Step) : Type 0 where
  -- a row that applies first gives its number, and a number is given by no other row
  pub given : (k : ℕ) (d : Device) (e : Event) → First k d e → (step d e).number ≡ k
  pub only : (d : Device) (e : Event) → ((step d e).number ≡ 0 → ⊥) → First (step d e).number d e
  -- accepted exactly where no row applies, and then the event is taken
  pub accepted : (d : Device) (e : Event) → ((k : ℕ) → row k d e ≡ false) → (step d e).number ≡ 0
  pub free : (d : Device) (e : Event) → (step d e).number ≡ 0 → (k : ℕ) → row k d e ≡ false
  pub taken : (d : Device) (e : Event) → (step d e).number ≡ 0 → step d e ≡ accepted_of (taken_of d e)
  -- "Refused: data 0, the state as given, lines as that state drives them (for 1, all lines 0)."
  pub silent : (d : Device) (e : Event) → ((step d e).number ≡ 0 → ⊥) → (step d e).byte ≡ 0
  -- order 1: "a refused read or any other event is stale"
  pub stale : (d : Device) (e : Event) → ((step d e).number ≡ 0 → ⊥) → (step d e).fresh ≡ false
  pub unaltered : (d : Device) (e : Event) → ((step d e).number ≡ 0 → ⊥) → (step d e).state ≡ d
  pub lines : (d : Device) (e : Event) → ((step d e).number ≡ 0 → ⊥)
      → (step d e).lines ≡ pick (eqb (step d e).number 1) no_lines (device_lines d)
