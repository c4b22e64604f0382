-- A chip that has been reset is sound, so the number that it answers with is the first of rows 1 to 6 that applies: the first does not, and the
-- others are tests of the event, of the front run alone, which the events tell, and of the interrupt line. Assumes nothing.
use Prim.Native.Nat.{ℕ}
use mathlib.Core.Path.{◌≡◌, refl, sym, ◌∙◌, ap}
use mathlib.Core.Bool.{Bool, true, false}
use mathlib.Core.List.{List}
use borrow.Author.Tests.{eqb-true, eqb-false}
use lib.Dec.{eqb}
use Rattle.format.specs.Pick.{pick}
use Rattle.front_side.specs.Side.{mode_not_modelled}
use Rattle.events.specs.declared.events.Event.{Event}
use Rattle.events.specs.declared.events.Event.TheVariants.{ChipReset, Read, Write, Acknowledge, Pins, Tick}
use Rattle.chip_refusals.specs.Rows as Rows
use Rattle.chip_device.specs.declared.device.Device.{Device}
use Rattle.chip_device.specs.Device.{is_sound_of}
use Rattle.chip_refusals.specs.Rows.{register_above15, forbidden_read, forbidden_command, write_not_modelled, acknowledged_unasserted}
use Rattle.chip_refusals.specs.Refusals.{first_of}
use Rattle.chip_step.specs.declared.chip.Answer.{Answer}
use Rattle.chip_step.specs.Chip.{step_of}
use Rattle.chip_step.proofs.Laws.Table.{accepts, refuses_first}
use Rattle.chip_laws.proofs.Sound.{keeps_sound}
use Rattle.demands.specs.Chip.{chip_of}
use Rattle.demands.specs.Chip.Channel.{A, B}
use Rattle.demands.specs.Numbers.{setting_refused, number_after, Numbers}
use Rattle.demands.proofs.Laws.Run.{run_at, run_front, run_sound}
use Rattle.demands.proofs.Laws.Told.{told}
use Rattle.demands.proofs.Laws.Looks.{chip}
use Rattle.demands.proofs.Interrupts.{interrupts}

-- row 7 refuses no event of a sound device
first_number : (d : Device) (e : Event) → is_sound_of d ≡ true → (step_of d e).number ≡ first_of d e 0
first_number d e s = go (eqb (first_of d e 0) 0) refl
  where
    go : (t : Bool) → eqb (first_of d e 0) 0 ≡ t → (step_of d e).number ≡ first_of d e 0
    go true z =
        let free = eqb-true _ 0 z in
        ap (λ (x : Answer). x.number) (accepts d e free (keeps_sound d e s free)) ∙ sym free
    go false z = ap (λ (x : Answer). x.number) (refuses_first d e (eqb-false _ 0 z))

-- the pointers are where the events tell
setting_told : (levels : ℕ) (es : List Event) (n byte : ℕ) → write_not_modelled (run_at levels es).front n byte ≡ setting_refused es n byte
unfolding write_not_modelled mode_not_modelled
setting_told levels es n byte = rw (run_front levels es, told A levels es, told B levels es)

pub numbers : Numbers (chip_of step_of)
unfolding chip_of number_after first_of register_above15 forbidden_read forbidden_command Rows.setting_not_modelled acknowledged_unasserted pick
numbers levels es e = go e
  where
    d : Device
    d = run_at levels es

    sound : is_sound_of d ≡ true
    sound = run_sound levels es

    go : (e : Event) → (chip levels es e).number ≡ number_after chip levels es e
    go ChipReset = first_number d ChipReset sound ∙ rw sound
    go (Read n) = first_number d (Read n) sound ∙ rw sound
    go (Write n byte) = first_number d (Write n byte) sound ∙ rw (sound, setting_told levels es n byte)
    go Acknowledge = interrupts.acknowledge levels es
    go (Pins x) = first_number d (Pins x) sound ∙ rw sound
    go Tick = first_number d Tick sound ∙ rw sound
