-- The laws of a word that spells a number, of the lines of a log, and of what is said of a capture. Assumes nothing.
use Prim.Native.Nat.{ℕ, zero, suc, ◌+◌, ◌*◌, ◌^◌, ◌≤◌, ◌<◌}
use mathlib.Core.Path.{◌≡◌, refl}
use mathlib.Core.List.{List, [], ◌∷◌, ◌++◌}
use native.Mathlib.Numerals.{add-one}
use native.Mathlib.Omega.{arith}
use lib.ListN.{length, take, drop, get_or, length-append, length-take}
use lib.Seq.{drop-cons}
use borrow.Author.Tests.{ne_eqb}
use Rattle.std.specs.Prelude.{Option, Some, None, Ok, Err}
use Rattle.format.specs.Pick.{pick}
use Rattle.text.specs.Bytes.{bytes_of}
use Rattle.text.specs.Puts.{Puts}
use Rattle.text.proofs.Laws.Decimal.{decimal_within}
use Rattle.text.specs.Numbers.{number_after, number_from}
use Rattle.refusal.specs.declared.refusal.Refusal.{Refusal}
use Rattle.refusal.specs.Refusal as Refusals
use Rattle.refusal.proofs.Laws.{never_0}
use Rattle.vcd_capture.specs.declared.capturing.Asked.{Asked}
use Rattle.vcd_capture.specs.declared.capturing.Captured.{Captured}
use Rattle.vcd_capture.specs.Capture.{CaptureMet}
use Rattle.vcd_capture.proofs.Laws.Capture.{accepts, refuses, filled-a, filled-b}
use Rattle.capture.specs.Arguments.{spelled}
use Rattle.capture.specs.Lines.{character_line, character_lines}
use Rattle.capture.specs.Said.{refused_text, printed_of}

-- ---- a word ----

pub spelled_none : (w : List ℕ) → length w ≡ 0 → spelled w ≡ None
unfolding spelled
spelled_none [] h = refl
spelled_none (b ∷ w) h = absurd (omega arith)

pub spelled_some : (w : List ℕ) → (length w ≡ 0 → ⊥) → spelled w ≡ number_from (Some 0) w
unfolding spelled
spelled_some [] h = absurd (h refl)
spelled_some (b ∷ w) h = refl

pub spelled_next : (w : List ℕ) (n : Option ℕ) (i : ℕ) → i < length w
    → number_from n (drop i w) ≡ number_from (number_after n (get_or w i 0)) (drop (i + 1) w)
unfolding number_from
spelled_next w n i h = rw (drop-cons w i 0 h, add-one)

pub spelled_end : (w : List ℕ) (n : Option ℕ) (i : ℕ) → length w ≤ i → number_from n (drop i w) ≡ n
unfolding number_from
spelled_end [] n zero h = refl
spelled_end [] n (suc i) h = refl
spelled_end (b ∷ w) n zero h = absurd (omega arith)
spelled_end (b ∷ w) n (suc i) h = spelled_end w n i (omega arith)

-- ---- the lines of a log ----

pub lines_next : (letter : ℕ) (log : List ℕ) (i : ℕ) → i + 1 < length log
    → character_lines letter (drop i log)
    ≡ character_line letter (get_or log i 0) (get_or log (i + 1) 0) ++ character_lines letter (drop (i + 2) log)
unfolding character_lines
lines_next letter log i h =
    let e : i + 2 ≡ suc (i + 1) = omega arith in
    let f : i + 1 ≡ suc i = omega arith in
    rw (drop-cons log i 0 (omega arith), e, f, drop-cons log (suc i) 0 (omega arith))

pub lines_end : (letter : ℕ) (log : List ℕ) (i : ℕ) → length log ≤ i + 1 → character_lines letter (drop i log) ≡ []
unfolding character_lines
lines_end letter [] zero h = refl
lines_end letter [] (suc i) h = refl
lines_end letter (d ∷ []) zero h = refl
lines_end letter (d ∷ m ∷ log) zero h = absurd (omega arith)
lines_end letter (d ∷ log) (suc i) h = lines_end letter log i (omega arith)

pub line_within : (letter d m : ℕ) → length (character_line letter d m) ≤ 10
unfolding character_line
line_within letter d m =
    let a = decimal_within 3 d in
    let b = decimal_within 3 m in
    simp length-append (omega arith)

pub lines_within : (letter : ℕ) (log : List ℕ) → length (character_lines letter log) ≤ 5 * length log
unfolding character_lines
lines_within letter [] = omega arith
lines_within letter (d ∷ []) = omega arith
lines_within letter (d ∷ m ∷ log) =
    let a = line_within letter d m in
    let b = lines_within letter log in
    simp length-append (omega arith)

-- ---- what is said ----

pub front_within : (k : ℕ) (l : List ℕ) → k ≡ length (take k l) → k ≤ length l
front_within k l h =
    let e = rw length-take at h in
    omega arith

pub part_fits : (k : ℕ) (l : List ℕ) {at n : ℕ} → at ≤ 234050 → length l ≡ n → n ≤ 46810
    → at + 5 * length (take k l) < 2 ^ 64
part_fits k l b e h = simp length-take (omega arith)

-- the lines of a log's part take a space's half, and so both take no more than the space
pub part_ends : (letter k : ℕ) (l : List ℕ) {at end n : ℕ} {s t : List ℕ} → length l ≡ n → n ≤ 46810
    → Puts at (character_lines letter (take k l)) s t end → end ≤ at + 234050
part_ends letter k l e h p =
    let w = lines_within letter (take k l) in
    let m : length (take k l) ≤ length l = simp length-take (omega arith) in
    omega (arith, p.ends)

pub refused_ends : (n : ℕ) {end room : ℕ} {s t : List ℕ} → 468100 ≤ room → Puts 0 (refused_text n) s t end → end ≤ room
unfolding refused_text bytes_of
refused_ends n h p =
    let w = decimal_within 3 n in
    let m : length (refused_text n) ≤ 12 = simp length-append (omega arith) in
    omega (arith, p.ends)

module _ (q : Asked) (text a b la lb ta tb : List ℕ) where
  pub said-lines : (x : Captured) → CaptureMet q text a b la lb ta tb (Ok x)
      → character_lines 65 (take x.length_a ta) ++ character_lines 66 (take x.length_b tb)
      ≡ printed_of q text a b (length la) (length lb)
  unfolding printed_of pick
  said-lines x met =
      rw ((filled-a q text a b la lb ta tb x met).0, (filled-b q text a b la lb ta tb x met).0, accepts q text a b la lb ta tb x met)

  pub said-refused : (x : Refusal) → CaptureMet q text a b la lb ta tb (Err x)
      → refused_text (Refusals.number_of x) ≡ printed_of q text a b (length la) (length lb)
  unfolding printed_of pick
  said-refused x met = rw (refuses q text a b la lb ta tb x met, ne_eqb _ 0 (never_0 x))
