-- The values of a time as words: the next wire's bit is the lowest, and two words with the same bits are one. Assumes nothing.
use Prim.Native.Nat.{ℕ, zero, suc, ◌+◌, ◌/◌, ◌%◌, ◌^◌, ◌<◌, ◌≤◌}
use mathlib.Core.Path.{◌≡◌, refl, sym, ◌∙◌, ap}
use mathlib.Core.Bool.{Bool, true, false, not, ◌||◌}
use mathlib.Core.List.{List, [], ◌++◌}
use native.Mathlib.Numerals.{add-one}
use native.Mathlib.Omega.{arith}
use native.Mathlib.Nat.{mod-eq_of_lt}
use lib.Dec.{eqb}
use lib.ListN.{length}
use borrow.Author.Tests.{ne_eqb}
use Rattle.format.specs.Pick.{pick}
use Rattle.format.specs.Digits.{bits_of, value_of}
use Rattle.format.proofs.Laws.Digits.{length_bits, value_bits}
use Rattle.vcd_text.specs.Changes.{time_line, value_line, differ, value_lines, at_time}
use Rattle.vcd_text.specs.Lines.{line_text}
use Rattle.vcd_text.specs.Words.{written_before, changes_text}
use Rattle.vcd_text.proofs.Laws.Changes.{same_values, no_values, some_values, at_time_within, values_within}

-- ---- wire by wire ----

differ_bits : (a b : ℕ) → a < 2 → b < 2 → differ (eqb a 1) (eqb b 1) ≡ not (eqb a b)
unfolding pick
differ_bits zero zero h k = refl
differ_bits zero (suc zero) h k = refl
differ_bits (suc zero) zero h k = refl
differ_bits (suc zero) (suc zero) h k = refl
differ_bits (suc (suc a)) b h k = absurd (omega arith)
differ_bits zero (suc (suc b)) h k = absurd (omega arith)
differ_bits (suc zero) (suc (suc b)) h k = absurd (omega arith)

pub next_wire : (none : Bool) (w code old new : ℕ)
    → value_lines code (written_before none (suc w) old) (bits_of (suc w) new)
    ≡ pick (none || not (eqb (old % 2) (new % 2))) (value_line code (eqb (new % 2) 1)) []
    ++ value_lines (code + 1) (written_before none w (old / 2)) (bits_of w (new / 2))
unfolding value_lines written_before bits_of pick
next_wire true w code old new = rw (add-one code)
next_wire false w code old new =
    rw (add-one code)
    (ap (λ (t : Bool). pick t (value_line code (eqb (new % 2) 1)) [] ++ value_lines (suc code) (bits_of w (old / 2)) (bits_of w (new / 2)))
    (differ_bits (old % 2) (new % 2) (omega arith) (omega arith)))

-- no wire is left
pub no_wire : (before : List Bool) (code new : ℕ) → value_lines code before (bits_of 0 new) ≡ []
unfolding value_lines bits_of
no_wire before code new = refl

-- ---- the whole time ----

bits_one : (w x y : ℕ) → x < 2 ^ w → y < 2 ^ w → bits_of w x ≡ bits_of w y → x ≡ y
bits_one w x y h k e =
    sym (value_bits w x ∙ mod-eq_of_lt h) ∙ ap value_of e ∙ value_bits w y ∙ mod-eq_of_lt k

-- at time 0 all values
pub first_changes : (n before values : ℕ) → n ≡ 0
    → time_line n ++ value_lines 33 (written_before true 11 before) (bits_of 11 values) ≡ changes_text n before values
unfolding changes_text written_before value_lines line_text bits_of at_time pick
first_changes n before values e = rw e

-- nothing where the values are those written before
pub no_changes : (n before values : ℕ) → (n ≡ 0 → ⊥) → before ≡ values → changes_text n before values ≡ []
unfolding changes_text written_before at_time pick
no_changes n before values h e = rw (ne_eqb n 0 h, e, same_values 33 (bits_of 11 values))

pub some_changes : (n before values : ℕ) → (n ≡ 0 → ⊥) → (before ≡ values → ⊥) → before < 2 ^ 11 → values < 2 ^ 11
    → time_line n ++ value_lines 33 (written_before false 11 before) (bits_of 11 values) ≡ changes_text n before values
unfolding changes_text written_before pick
some_changes n before values h d l k =
    rw (ne_eqb n 0 h)
    (sym (some_values n _ (λ (e : value_lines 33 (bits_of 11 before) (bits_of 11 values) ≡ []).
    d (bits_one 11 before values l k (no_values 33 _ _ (length_bits 11 before ∙ sym (length_bits 11 values)) e)))))

pub changes_within : (n before values : ℕ) → length (changes_text n before values) ≤ 55
unfolding changes_text
changes_within n before values =
    let a = at_time_within n (value_lines 33 (written_before (eqb n 0) 11 before) (bits_of 11 values)) in
    let b = values_within 33 (written_before (eqb n 0) 11 before) (bits_of 11 values) in
    omega (arith, a, b, length_bits 11 values)
