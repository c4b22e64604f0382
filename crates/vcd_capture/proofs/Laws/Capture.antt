-- The answer and the logs by the test that decides them, in the order of the tests. Assumes nothing.
use Prim.Native.Nat.{ℕ, ◌+◌, ◌-◌}
use mathlib.Core.Path.{◌≡◌, refl, sym, ◌∙◌, ap, subst}
use mathlib.Core.Bool.{Bool, true, false, ◌||◌, true≢false, false≢true}
use mathlib.Core.List.{List, [], ◌++◌}
use native.Mathlib.Omega.{arith}
use lib.Dec.{ltb}
use lib.ListN.{length, take, drop}
use lib.Seq.{take-append_seam}
use borrow.Author.Tests.{ne_eqb, ltb-false}
use Rattle.std.specs.Prelude.{Option, None, Some, Result, Ok, Err}
use Rattle.std.specs.Result.{result_err, result_unwrap_or, is_ok}
use Rattle.std.proofs.lemmas.List.{take_rest}
use Rattle.format.specs.Pick.{pick}
use Rattle.format.specs.Format.{mr1_not_modelled}
use Rattle.format.specs.declared.counts.Ticks.{Ticks}
use Rattle.feed.specs.declared.feed.Setting.{Setting}
use Rattle.dividers.specs.Rates.{period_of}
use Rattle.text.specs.Puts.{Puts}
use Rattle.text.proofs.Laws.Puts.{puts_whole}
use Rattle.vcd_read.specs.declared.scanning.Scanned.{Scanned}
use Rattle.vcd_lines.specs.Body.{started}
use Rattle.vcd_read.specs.Scan.{scan_of, found_in}
use Rattle.refusal.specs.declared.refusal.Refusal.{Refusal}
use Rattle.refusal.specs.declared.refusal.Refusal.TheVariants.{SettingNotModelled, SpaceShort}
use Rattle.refusal.specs.Refusal as Refusals
use Rattle.refusal.proofs.Laws.{never_0}
use Rattle.vcd_capture.specs.declared.capturing.Asked.{Asked}
use Rattle.vcd_capture.specs.declared.capturing.Captured.{Captured}
use Rattle.vcd_capture.specs.Logs.{log_bytes}
use Rattle.vcd_capture.specs.Ear.{heard_from, just_enabled}
use Rattle.vcd_capture.specs.Capture.{setting_of, end_of, text_refusal, capture_refusal, log_a, log_b, refusal_of, number_of, captured_by, captured_of, log_after, CaptureMet, handed_of}

both_false : (x y : Bool) → (x || y) ≡ false → (x ≡ false) × (y ≡ false)
both_false false y h = (refl, h)
both_false true y h = absurd (true≢false h)

-- text put from the start ends at its length
pub from_start : {end n : ℕ} → end ≡ 0 + n → end ≡ n
from_start h = omega arith

-- what is heard of a wire, with what the code has worked out: the lines are the slice from the header's end on
pub heard_is : (q : Asked) (text a b : List ℕ) (p : Ticks) (f : Setting) (end : ℕ) (s : Scanned) → p ≡ period_of q.acr7 q.code → f ≡ setting_of q.mr1
    → end ≡ end_of s.times → scan_of text a b ≡ Ok s
    → (log_bytes (heard_from p.0 f s.code_a end started just_enabled (take (length text - s.body) (drop s.body text))) ≡ log_a q text a b)
    × (log_bytes (heard_from p.0 f s.code_b end started just_enabled (take (length text - s.body) (drop s.body text))) ≡ log_b q text a b)
unfolding found_in
heard_is q text a b p f end s ep ef ee es = (rw (take_rest text s.body, ep, ef, ee, es), rw (take_rest text s.body, ep, ef, ee, es))

module _ (q : Asked) (text a b la lb : List ℕ) where
  abbrev refusal : Option Refusal
  refusal = refusal_of q text a b (length la) (length lb)

  abbrev pub Short : Bool → Type 0
  Short t = (ltb (length la) (length (log_a q text a b)) || ltb (length lb) (length (log_b q text a b))) ≡ t

  pub five : (mr1_not_modelled q.mr1 || ltb 12 q.code) ≡ true → refusal ≡ Some SettingNotModelled
  unfolding capture_refusal pick
  five e = rw e

  module _ (m : (mr1_not_modelled q.mr1 || ltb 12 q.code) ≡ false) where
    pub by-text : (x : Refusal) → scan_of text a b ≡ Err x → refusal ≡ Some x
    unfolding capture_refusal text_refusal pick
    by-text x e = rw (m, e)

    module _ (s : Scanned) (found : scan_of text a b ≡ Ok s) where
      pub eight : Short true → refusal ≡ Some SpaceShort
      unfolding capture_refusal text_refusal pick
      eight e = rw (m, e, found)

      pub none : Short false → refusal ≡ None
      unfolding capture_refusal text_refusal pick
      none e = rw (m, e, found)

  pub refused : (x : Refusal) (r : Result Captured Refusal) → refusal ≡ Some x → r ≡ Err x → CaptureMet q text a b la lb la lb r
  unfolding captured_of captured_by log_after pick
  refused x r e h =
      let z = ne_eqb _ 0 (never_0 x) in
      record { answer = h ∙ rw e; first = rw (e, z); second = rw (e, z) }

  pub accepted : (ea eb : ℕ) (ta tb : List ℕ) → ea ≡ length (log_a q text a b) → eb ≡ length (log_b q text a b) → refusal ≡ None → Short false
      → (xa xb : ℕ) → Puts 0 (log_a q text a b) la ta xa → Puts 0 (log_b q text a b) lb tb xb
      → CaptureMet q text a b la lb ta tb (Ok (record { length_a = ea; length_b = eb }))
  unfolding captured_of captured_by log_after pick
  accepted ea eb ta tb ha hb e fits xa xb pa pb =
      let f = both_false _ _ fits in
      record {
        answer = rw (e, ha, hb);
        first = rw e (puts_whole pa (ltb-false _ _ f.0));
        second = rw e (puts_whole pb (ltb-false _ _ f.1));
      }

-- ---- the part that is handed ----

part : (t : Bool) (x l after : List ℕ) (k : ℕ) → k ≡ pick t (length x) 0 → after ≡ pick t (x ++ drop (length x) l) l
    → (take k after ≡ pick t x []) × (k ≡ length (take k after))
unfolding pick
part true x l after k e h =
    let p : take k after ≡ x = rw (e, h) (take-append_seam x (drop (length x) l)) in
    (p, e ∙ ap length (sym p))
part false x l after k e h = (rw e, rw e)

-- nothing of either log
abbrev pub unfilled : Captured
unfilled = record { length_a = 0; length_b = 0 }

-- what an answer tells of the refusal
told_none : (o : Option Refusal) (f x : Captured) → Ok x ≡ captured_by o f → (o ≡ None) × (x ≡ f)
unfolding captured_by
told_none None f x h = (refl, ap (λ (r : Result Captured Refusal). result_unwrap_or r f) h)
told_none (Some y) f x h = absurd (true≢false (ap is_ok h))

told_some : (o : Option Refusal) (f : Captured) (x : Refusal) → Err x ≡ captured_by o f → o ≡ Some x
unfolding captured_by
told_some None f x h = absurd (false≢true (ap is_ok h))
told_some (Some y) f x h = sym (ap result_err h)

module _ (q : Asked) (text a b la lb ta tb : List ℕ) where
  pub accepts : (x : Captured) → CaptureMet q text a b la lb ta tb (Ok x) → number_of q text a b (length la) (length lb) ≡ 0
  unfolding captured_of
  accepts x met = rw (told_none _ _ x met.answer).0

  pub refuses : (x : Refusal) → CaptureMet q text a b la lb ta tb (Err x) → number_of q text a b (length la) (length lb) ≡ Refusals.number_of x
  unfolding captured_of
  refuses x met = rw (told_some _ _ x met.answer)

  -- the part of each log that is filled
  pub filled-a : (x : Captured) → CaptureMet q text a b la lb ta tb (Ok x) → (take x.length_a ta ≡ log_a q text a b) × (x.length_a ≡ length (take x.length_a ta))
  unfolding captured_of log_after pick
  filled-a x met =
      let e = accepts x met in
      part true (log_a q text a b) la ta x.length_a (ap (λ (y : Captured). y.length_a) (told_none _ _ x met.answer).1) (met.first ∙ rw e)

  pub filled-b : (x : Captured) → CaptureMet q text a b la lb ta tb (Ok x) → (take x.length_b tb ≡ log_b q text a b) × (x.length_b ≡ length (take x.length_b tb))
  unfolding captured_of log_after pick
  filled-b x met =
      let e = accepts x met in
      part true (log_b q text a b) lb tb x.length_b (ap (λ (y : Captured). y.length_b) (told_none _ _ x met.answer).1) (met.second ∙ rw e)

  pub part-a : (r : Result Captured Refusal) → CaptureMet q text a b la lb ta tb r → (filled : Captured) → filled ≡ result_unwrap_or r unfilled
      → (take filled.length_a ta ≡ handed_of q text a b (length la) (length lb) false) × (filled.length_a ≡ length (take filled.length_a ta))
  unfolding handed_of pick
  part-a (Ok x) met filled h = let f = filled-a x met in rw (h, accepts x met) f
  part-a (Err x) met filled h = rw (h, refuses x met, ne_eqb _ 0 (never_0 x)) (refl, refl)

  pub part-b : (r : Result Captured Refusal) → CaptureMet q text a b la lb ta tb r → (filled : Captured) → filled ≡ result_unwrap_or r unfilled
      → (take filled.length_b tb ≡ handed_of q text a b (length la) (length lb) true) × (filled.length_b ≡ length (take filled.length_b tb))
  unfolding handed_of pick
  part-b (Ok x) met filled h = let f = filled-b x met in rw (h, accepts x met) f
  part-b (Err x) met filled h = rw (h, refuses x met, ne_eqb _ 0 (never_0 x)) (refl, refl)

pub met_as : {q : Asked} {text a b la lb ta tb : List ℕ} {r x : Result Captured Refusal} → r ≡ x → CaptureMet q text a b la lb ta tb r
    → CaptureMet q text a b la lb ta tb x
met_as {q} {text} {a} {b} {la} {lb} {ta} {tb} e met = subst (λ (r : Result Captured Refusal). CaptureMet q text a b la lb ta tb r) e met
