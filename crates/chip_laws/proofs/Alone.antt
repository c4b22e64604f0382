-- An accepted event is one that the front does not refuse, and the step is defined by what the front hands on. A refused one leaves the state: rows
-- 2 to 5 are the front's, row 6 refuses an acknowledge, which hands on nothing, and rows 1 and 7 do not come up. Assumes nothing.
use Prim.Native.Nat.{ℕ, zero, suc}
use mathlib.Core.Path.{◌≡◌, refl, sym, ◌∙◌, ap}
use mathlib.Core.Bool.{true, true≢false, or-true}
use native.Mathlib.Omega.{arith}
use Rattle.format.specs.Pick.{pick}
use Rattle.events.specs.declared.events.Event.{Event}
use Rattle.events.specs.declared.events.Event.TheVariants.{ChipReset, Read, Write, Acknowledge, Pins, Tick}
use Rattle.front_events.specs.FrontEvents.{front_stepped}
use Rattle.front.specs.declared.front.Handed.{Handed}
use Rattle.front.specs.Front.{handed_nothing}
use Rattle.receiver.specs.Receiver.{fed_of}
use Rattle.chip_device.specs.declared.device.Device.{Device}
use Rattle.chip_step.specs.declared.chip.Answer.{Answer}
use Rattle.chip_device.specs.Device.{is_sound_of}
use Rattle.chip_step.specs.Chip.{taken_of, step_of}
use Rattle.chip_refusals.specs.Rows.{acknowledged_unasserted}
use Rattle.chip_laws.specs.Alone.{handed_after, Alone}
use Rattle.chip_laws.specs.Sound.{NeverSeven}
use Rattle.chip_laws.specs.Table.{row, First}
use Rattle.chip_laws.proofs.Sound.{never_seven}
use Rattle.chip_laws.proofs.Table.{no_more_rows, table}

-- a device whose front is the one handed back, and whose receivers have taken what they were handed
abbrev fed_all : Device → Handed → Device
fed_all d h = record { front = h.front; a = (fed_of d.a h.a).receiver; b = (fed_of d.b h.b).receiver }

-- an acknowledge hands on nothing, and only an acknowledge can meet row 6
unasserted_nothing : (d : Device) (e : Event) → acknowledged_unasserted d e ≡ true → front_stepped d.front e ≡ handed_nothing d.front
unfolding acknowledged_unasserted front_stepped
unasserted_nothing d ChipReset h = absurd (true≢false (sym h))
unasserted_nothing d (Read n) h = absurd (true≢false (sym h))
unasserted_nothing d (Write n byte) h = absurd (true≢false (sym h))
unasserted_nothing d Acknowledge h = refl
unasserted_nothing d (Pins levels) h = absurd (true≢false (sym h))
unasserted_nothing d Tick h = absurd (true≢false (sym h))

refused_nothing : (d : Device) (e : Event) (k : ℕ) → is_sound_of d ≡ true → (k ≡ 7 → ⊥) → First k d e
    → handed_after d.front e ≡ handed_nothing d.front
unfolding handed_after row pick
refused_nothing d e zero s n x = absurd (true≢false (sym x.applies))
refused_nothing d e (suc zero) s n x = absurd (true≢false (sym x.applies ∙ rw s))
refused_nothing d e (suc (suc zero)) s n x = rw x.applies
refused_nothing d e (suc (suc (suc zero))) s n x = rw (x.applies, or-true)
refused_nothing d e (suc (suc (suc (suc zero)))) s n x = rw (x.applies, or-true, or-true)
refused_nothing d e (suc (suc (suc (suc (suc zero))))) s n x = rw (x.applies, or-true, or-true, or-true)
refused_nothing d e (suc (suc (suc (suc (suc (suc zero)))))) s n x =
    rw (x.earlier 2 (omega arith), x.earlier 3 (omega arith), x.earlier 4 (omega arith), x.earlier 5 (omega arith))
    (unasserted_nothing d e x.applies)
refused_nothing d e (suc (suc (suc (suc (suc (suc (suc zero))))))) s n x = absurd (n refl)
refused_nothing d e (suc (suc (suc (suc (suc (suc (suc (suc k)))))))) s n x =
    absurd (true≢false (sym x.applies ∙ no_more_rows d e (suc (suc (suc (suc (suc (suc (suc (suc k)))))))) (omega arith)))

accepted_stepped : (d : Device) (e : Event) → (step_of d e).number ≡ 0 → handed_after d.front e ≡ front_stepped d.front e
unfolding handed_after row pick
accepted_stepped d e z = rw (table.free d e z 2, table.free d e z 3, table.free d e z 4, table.free d e z 5)

pub alone_state : NeverSeven step_of → (d : Device) (e : Event) → is_sound_of d ≡ true → (step_of d e).state ≡ fed_all d (handed_after d.front e)
unfolding taken_of fed_of
alone_state never d e s = go (step_of d e).number refl
  where
    go : (n : ℕ) → (step_of d e).number ≡ n → (step_of d e).state ≡ fed_all d (handed_after d.front e)
    go zero z = ap (λ (x : Answer). x.state) (table.taken d e z) ∙ rw (accepted_stepped d e z)
    go (suc n) z =
        let refused : (step_of d e).number ≡ 0 → ⊥ = omega arith in
        table.unaltered d e refused ∙ rw (refused_nothing d e (step_of d e).number s (never d e s) (table.only d e refused))

pub alone_from : NeverSeven step_of → Alone step_of
alone_from never =
    record {
      front = λ d e s. ap (λ (x : Device). x.front) (alone_state never d e s);
      a = λ d e s. ap (λ (x : Device). x.a) (alone_state never d e s);
      b = λ d e s. ap (λ (x : Device). x.b) (alone_state never d e s);
    }

pub alone : Alone step_of
alone = alone_from never_seven
