-- The text that is left: where no event is left, where one is refused, and after one that is accepted. Assumes nothing.
use Prim.Native.Nat.{ℕ, suc, ◌+◌}
use mathlib.Core.Path.{◌≡◌, refl, sym, ◌∙◌, ap}
use mathlib.Core.Bool.{Bool, true, false}
use mathlib.Core.List.{List, [], ◌∷◌, ◌++◌, map, append-nil}
use native.Mathlib.Numerals.{add-one}
use native.Mathlib.Omega.{arith}
use lib.Dec.{eqb}
use borrow.Author.Tests.{eq-eqb, ne_eqb}
use Rattle.format.specs.Pick.{pick}
use Rattle.format.specs.Digits.{bits_of, value_of}
use Rattle.events.specs.declared.events.Event.{Event}
use Rattle.chip_device.specs.declared.device.Device.{Device}
use Rattle.chip_device.specs.Device.{device_lines}
use Rattle.chip_step.specs.Chip.{step_of, number_of, taken_of, accepted_of, refused_of}
use Rattle.chip_fast.specs.Fast.{is_tick}
use Rattle.vcd_text.specs.Header.{header_of, chip_wires}
use Rattle.vcd_text.specs.Changes.{waves_text, dump_text}
use Rattle.vcd_text.specs.Words.{written_before, changes_text}
use Rattle.vcd_dump.specs.declared.waves.Wave.{Wave}
use Rattle.vcd_dump.specs.Waves.{values_of, events_of, waves_from}
use Rattle.vcd_dump.specs.Wave.{end_text, wave_after, rest_of}
use Rattle.vcd_dump.specs.Dump.{text_of}
use Rattle.vcd_dump.proofs.Laws.Values.{values_bits}

true_false : true ≡ false → ⊥
unfolding pick
true_false z = let n : ◌≡◌ {A = ℕ} 1 0 = ap (λ (b : Bool). pick b 1 0) z in omega arith

-- "lines as that state drives them": those of an accepted answer are its state's
pub accepted_lines : (d : Device) (e : Event) → (step_of d e).number ≡ 0 → (step_of d e).lines ≡ device_lines (step_of d e).state
unfolding step_of pick
accepted_lines d e h = go (eqb (number_of d e) 0) refl h
  where
    go : (t : Bool) → eqb (number_of d e) 0 ≡ t → (pick t (accepted_of (taken_of d e)) (refused_of d (number_of d e))).number ≡ 0
        → (pick t (accepted_of (taken_of d e)) (refused_of d (number_of d e))).lines
        ≡ device_lines (pick t (accepted_of (taken_of d e)) (refused_of d (number_of d e))).state
    go true q h = refl
    go false q h = absurd (true_false (sym (eq-eqb _ 0 h) ∙ q))

-- after time 0 there are values written before
before_next : (n v : ℕ) → written_before (eqb (n + 1) 0) 11 v ≡ bits_of 11 v
unfolding written_before pick
before_next n v = rw (ne_eqb (n + 1) 0 (λ (z : n + 1 ≡ 0). omega arith))

module _ (w : Wave) (d : Device) (now : w.values ≡ value_of (values_of (device_lines d))) where
  -- the values of the time that the wave stands at
  ended : (later : List (List Bool))
      → waves_text w.tick (written_before (eqb w.tick 0) 11 w.before) (values_of (device_lines d) ∷ later)
      ≡ end_text w ++ waves_text (suc w.tick) (values_of (device_lines d)) later
  unfolding waves_text changes_text
  ended later = rw (now, values_bits (device_lines d))

  ended-last : waves_text w.tick (written_before (eqb w.tick 0) 11 w.before) (values_of (device_lines d) ∷ []) ≡ end_text w
  unfolding waves_text
  ended-last = ended [] ∙ append-nil (end_text w)

  -- no event is left
  pub rest_end : rest_of w d [] ≡ end_text w
  unfolding rest_of waves_from
  rest_end = ended-last

  -- "It stops before a refused event"
  pub rest-refused : (e : Event) (es : List Event) → ((step_of d e).number ≡ 0 → ⊥) → rest_of w d (e ∷ es) ≡ end_text w
  unfolding rest_of waves_from pick
  rest-refused e es h = rw (ne_eqb (step_of d e).number 0 h) ended-last

  -- an accepted event: a tick ends the time, another event leaves it
  pub rest-next : (e : Event) (es : List Event) → (step_of d e).number ≡ 0
      → rest_of w d (e ∷ es)
      ≡ pick (is_tick e) (end_text w) [] ++ rest_of (wave_after w (is_tick e) (step_of d e).lines) (step_of d e).state es
  unfolding rest_of waves_from wave_after pick
  rest-next e es h = rw (eq-eqb (step_of d e).number 0 h) (go (is_tick e))
    where
      later : List (List Bool)
      later = map values_of (waves_from step_of (step_of d e).state es)

      next : waves_text (suc w.tick) (values_of (device_lines d)) later
          ≡ waves_text (w.tick + 1) (written_before (eqb (w.tick + 1) 0) 11 w.values) later
      next = rw (before_next w.tick w.values, now, values_bits (device_lines d), add-one w.tick)

      go : (t : Bool)
          → waves_text w.tick (written_before (eqb w.tick 0) 11 w.before)
          (map values_of (pick t (device_lines d ∷ waves_from step_of (step_of d e).state es) (waves_from step_of (step_of d e).state es)))
          ≡ pick t (end_text w) [] ++ rest_of (wave_after w t (step_of d e).lines) (step_of d e).state es
      go true = ended later ∙ ap (λ (l : List ℕ). end_text w ++ l) next
      go false = refl

-- the whole text: the header, and what is left at time 0
pub text_is : (w : Wave) (d : Device) (bytes : List ℕ) → w.tick ≡ 0 → header_of chip_wires ++ rest_of w d (events_of bytes) ≡ text_of d bytes
unfolding rest_of written_before text_of dump_text pick
text_is w d bytes e = rw e
