-- The table of answers by its rows: where none of rows 1 to 6 applies, what comes after them answers; else the first of them does, whatever
-- comes after. So each way out of `step` is the table's answer. Assumes nothing.
use Prim.Native.Nat.{ℕ}
use mathlib.Core.Path.{◌≡◌, refl, ◌∙◌}
use mathlib.Core.Bool.{Bool, true, false}
use borrow.Author.Tests.{ne_eqb}
use native.Mathlib.Omega.{arith}
use Rattle.format.specs.Pick.{pick}
use Rattle.events.specs.declared.events.Event.{Event}
use Rattle.chip_device.specs.declared.device.Device.{Device}
use Rattle.chip_device.specs.Device.{is_sound_of}
use Rattle.chip_step.specs.Chip.{taken_of, new_unsound, number_of, refused_of, accepted_of, step_of}
use Rattle.chip_refusals.specs.Rows.{unsound, register_above15, forbidden_read, forbidden_command, setting_not_modelled, acknowledged_unasserted}
use Rattle.chip_refusals.specs.Refusals.{six_rows, first_of}

none_of_six : (a b c d e f : Bool) (after : ℕ) → six_rows a b c d e f 0 ≡ 0 → six_rows a b c d e f after ≡ after
unfolding pick
none_of_six true b c d e f after h = absurd (omega arith)
none_of_six false true c d e f after h = absurd (omega arith)
none_of_six false false true d e f after h = absurd (omega arith)
none_of_six false false false true e f after h = absurd (omega arith)
none_of_six false false false false true f after h = absurd (omega arith)
none_of_six false false false false false true after h = absurd (omega arith)
none_of_six false false false false false false after h = refl

some_of_six : (a b c d e f : Bool) (after : ℕ) → (six_rows a b c d e f 0 ≡ 0 → ⊥) → six_rows a b c d e f after ≡ six_rows a b c d e f 0
unfolding pick
some_of_six true b c d e f after h = refl
some_of_six false true c d e f after h = refl
some_of_six false false true d e f after h = refl
some_of_six false false false true e f after h = refl
some_of_six false false false false true f after h = refl
some_of_six false false false false false true after h = refl
some_of_six false false false false false false after h = absurd (h refl)

pub none_first : (d : Device) (e : Event) (after : ℕ) → first_of d e 0 ≡ 0 → first_of d e after ≡ after
unfolding first_of
none_first d e after h =
    none_of_six (unsound d) (register_above15 e) (forbidden_read e) (forbidden_command e) (setting_not_modelled d.front e) (acknowledged_unasserted d e) after h

pub some_first : (d : Device) (e : Event) (after : ℕ) → (first_of d e 0 ≡ 0 → ⊥) → first_of d e after ≡ first_of d e 0
unfolding first_of
some_first d e after h =
    some_of_six (unsound d) (register_above15 e) (forbidden_read e) (forbidden_command e) (setting_not_modelled d.front e) (acknowledged_unasserted d e) after h

-- ---- the ways out of `step` ----

number_accepts : (d : Device) (e : Event) → first_of d e 0 ≡ 0 → is_sound_of (taken_of d e).state ≡ true → number_of d e ≡ 0
unfolding number_of pick
number_accepts d e h s = none_first d e _ h ∙ rw s

number_seven : (d : Device) (e : Event) → first_of d e 0 ≡ 0 → is_sound_of (taken_of d e).state ≡ false → number_of d e ≡ 7
unfolding number_of pick
number_seven d e h s = none_first d e _ h ∙ rw s

pub accepts : (d : Device) (e : Event) → first_of d e 0 ≡ 0 → is_sound_of (taken_of d e).state ≡ true → step_of d e ≡ accepted_of (taken_of d e)
unfolding step_of pick
accepts d e h s = rw (number_accepts d e h s)

pub refuses_seven : (d : Device) (e : Event) → first_of d e 0 ≡ 0 → is_sound_of (taken_of d e).state ≡ false → step_of d e ≡ refused_of d 7
unfolding step_of pick
refuses_seven d e h s = rw (number_seven d e h s)

pub refuses_first : (d : Device) (e : Event) → (first_of d e 0 ≡ 0 → ⊥) → step_of d e ≡ refused_of d (first_of d e 0)
unfolding step_of number_of pick
refuses_first d e h = rw (some_first d e (pick (new_unsound d e) 7 0) h, ne_eqb (first_of d e 0) 0 h)
