-- A refused event leaves the state; an accepted one of these hands the front back as it was, and nothing to either receiver. Assumes nothing.
use Prim.Native.Nat.{ℕ, zero, suc}
use mathlib.Core.Path.{◌≡◌, refl, ◌∙◌, ap}
use mathlib.Core.Bool.{Bool, true, false, ◌||◌}
use native.Mathlib.Omega.{arith}
use lib.Dec.{eqb}
use borrow.Author.Tests.{eqb-true}
use Rattle.format.specs.Pick.{pick}
use Rattle.events.specs.declared.events.Event.{Event}
use Rattle.events.specs.declared.events.Event.TheVariants.{Read, Acknowledge}
use Rattle.front_events.specs.FrontEvents.{front_stepped}
use Rattle.front.specs.declared.front.Front.{Front}
use Rattle.front.specs.Front.{handed_nothing}
use Rattle.front_reads.specs.Reads.{side_read, shared_read, register_read}
use Rattle.receiver.specs.Receiver.{fed_of}
use Rattle.chip_device.specs.declared.device.Device.{Device}
use Rattle.chip_step.specs.declared.chip.Answer.{Answer}
use Rattle.chip_step.specs.Chip.{taken_of, step_of}
use Rattle.chip_answers.specs.Answers.{event_data}
use Rattle.chip_device.specs.Device.{is_sound_of}
use Rattle.chip_refusals.specs.Rows.{register_above15, forbidden_read, forbidden_command, setting_not_modelled, device_asserted, acknowledged_unasserted}
use Rattle.chip_refusals.specs.Refusals.{first_of}
use Rattle.chip_step.proofs.Laws.Table.{accepts}
use Rattle.chip_laws.specs.Quiet.{only_looks, Quiet}
use Rattle.chip_laws.proofs.Table.{table}

-- an event that hands nothing on leaves the state, accepted or refused
quiet_step : (d : Device) (e : Event) → front_stepped d.front e ≡ handed_nothing d.front → (step_of d e).state ≡ d
unfolding taken_of fed_of
quiet_step d e h = go (step_of d e).number refl
  where
    taken : (taken_of d e).state ≡ d
    taken = rw h

    go : (n : ℕ) → (step_of d e).number ≡ n → (step_of d e).state ≡ d
    go zero z = ap (λ (x : Answer). x.state) (table.taken d e z) ∙ taken
    go (suc n) z = table.unaltered d e (omega arith)

-- one or the other
either : {A : Type 0} {s t : Bool} → (s ≡ true → A) → (t ≡ true → A) → (s || t) ≡ true → A
either {s = true} f g h = f refl
either {s = false} f g h = g h

only_looked : (f : Front) (n : ℕ) → only_looks n ≡ true → register_read f n ≡ handed_nothing f
unfolding register_read side_read shared_read pick
only_looked f n h =
    either (either (is 1 refl) (is 9 refl))
    (either (either (is 5 refl) (either (is 6 refl) (is 7 refl))) (either (is 12 refl) (is 13 refl)))
    h
  where
    is : (k : ℕ) → register_read f k ≡ handed_nothing f → eqb n k ≡ true → register_read f n ≡ handed_nothing f
    is k p e = let z : n ≡ k = eqb-true n k e in rw z p

-- no row refuses an acknowledge of a sound device that asserts IRQ
acknowledged : (d : Device) → is_sound_of d ≡ true → device_asserted d ≡ true → (step_of d Acknowledge).byte ≡ d.front.ivr
unfolding first_of acknowledged_unasserted register_above15 forbidden_read forbidden_command setting_not_modelled taken_of front_stepped fed_of event_data pick
acknowledged d s t = ap (λ (x : Answer). x.byte) (accepts d Acknowledge (rw (s, t)) s)

pub quiet : Quiet step_of
unfolding front_stepped
quiet =
    record {
      read = λ d n h. quiet_step d (Read n) (only_looked d.front n h);
      acknowledge = λ d. quiet_step d Acknowledge refl;
      vector = acknowledged;
    }
