-- What is asked of the loop: a call that is not refused takes the whole list, from a sound device, and there is room
-- for its answers; a refused one takes no event. Assumes nothing.
use mathlib.Core.Path.{◌≡◌, refl, sym, ◌∙◌, ap}
use mathlib.Core.Bool.{Bool, true, false}
use mathlib.Core.List.{List}
use Prim.Native.Nat.{ℕ, ◌≤◌}
use lib.ListN.{length, take}
use lib.Seq.{take-length}
use lib.Dec.{ltb}
use borrow.Author.Tests.{ltb-false, eqb-false, eq-eqb, ne_eqb}
use Rattle.format.specs.Pick.{pick}
use Rattle.format.proofs.Laws.Pick.{pick_yes, pick_no}
use Rattle.chip_device.specs.declared.device.Device.{Device}
use Rattle.chip_device.specs.Device.{is_sound_of}
use Rattle.records.specs.declared.records.EventRecord.{EventRecord}
use Rattle.records.specs.declared.records.Seen.{Seen}
use Rattle.poll.specs.Step.{turn_of, single_of}
use Rattle.poll.specs.Poll.{poll_refusal, untouched, poll_from, after_poll}
use Rattle.poll.proofs.Alike.{alike}
use Rattle.poll.proofs.Steps.{turn_single, stays_sound}

-- ---- a call that is not refused
none_refuses : (s t u : Bool) → ◌≡◌ {A = ℕ} (pick s (pick t 8 (pick u 9 0)) 1) 0 → (s ≡ true) × (t ≡ false)
unfolding pick
none_refuses true true u e = absurd (eqb-false 8 0 refl e)
none_refuses true false u e = (refl, refl)
none_refuses false t u e = absurd (eqb-false 1 0 refl e)

pub sound_given : (d : Device) (l s : ℕ) → poll_refusal d l s ≡ 0 → is_sound_of d ≡ true
unfolding poll_refusal
sound_given d l s e = (none_refuses (is_sound_of d) (ltb s l) (ltb 4096 l) e).0

pub room_given : (d : Device) (l s : ℕ) → poll_refusal d l s ≡ 0 → l ≤ s
unfolding poll_refusal
room_given d l s e = ltb-false s l (none_refuses (is_sound_of d) (ltb s l) (ltb 4096 l) e).1

-- ---- the end that is asked: of a call that is not refused by the loop's own step, of a refused one at once
module _ (d : Device) (es : List EventRecord) (xs : List Seen) where
  pub asked : 0 ≡ poll_refusal d (length es) (length xs) → after_poll d es xs ≡ poll_from turn_of d (take (length es) es) xs
  unfolding after_poll
  asked accepted =
      pick_yes _ _ _ (eq-eqb _ _ (sym accepted))
      ∙ sym (alike turn_of single_of turn_single stays_sound d es xs (sound_given d (length es) (length xs) (sym accepted)))
      ∙ ap (λ (fs : List EventRecord). poll_from turn_of d fs xs) (sym (take-length es))

  pub refused : (poll_refusal d (length es) (length xs) ≡ 0 → ⊥) → after_poll d es xs ≡ untouched d xs
  unfolding after_poll
  refused some = pick_no _ _ _ (ne_eqb _ _ some)
