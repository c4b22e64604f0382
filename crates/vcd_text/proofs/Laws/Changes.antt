-- The lines of a time. Assumes nothing.
use Prim.Native.Nat.{ℕ, suc, ◌+◌, ◌*◌, ◌≤◌}
use mathlib.Core.Path.{◌≡◌, refl, ap}
use mathlib.Core.Bool.{Bool, true, false}
use mathlib.Core.List.{List, [], ◌∷◌, ◌++◌}
use native.Mathlib.Omega.{arith}
use lib.ListN.{length, length-append}
use Rattle.format.specs.Pick.{pick}
use Rattle.text.proofs.Laws.Decimal.{decimal_within}
use Rattle.vcd_text.specs.Time.{time_of}
use Rattle.vcd_text.specs.Changes.{time_line, value_line, value_lines, at_time}
use Rattle.vcd_text.specs.Lines.{line_text}

-- values that are those written before are not written
pub same_values : (code : ℕ) (vs : List Bool) → value_lines code vs vs ≡ []
unfolding value_lines pick
same_values code [] = refl
same_values code (true ∷ vs) = same_values (suc code) vs
same_values code (false ∷ vs) = same_values (suc code) vs

cons_not_nil : (x : ℕ) (xs : List ℕ) → x ∷ xs ≡ [] → ⊥
cons_not_nil x xs e = let z : ◌≡◌ {A = ℕ} 1 0 = ap non_empty e in omega arith
  where
    non_empty : List ℕ → ℕ
    non_empty [] = 0
    non_empty (y ∷ ys) = 1

-- where as many as before are not written, they are those
pub no_values : (code : ℕ) (us vs : List Bool) → length us ≡ length vs → value_lines code us vs ≡ [] → us ≡ vs
unfolding value_lines line_text pick
no_values code [] [] l e = refl
no_values code [] (v ∷ vs) l e = absurd (omega arith)
no_values code (u ∷ us) [] l e = absurd (omega arith)
no_values code (true ∷ us) (true ∷ vs) l e = ap (λ (r : List Bool). true ∷ r) (no_values (suc code) us vs (omega arith) e)
no_values code (true ∷ us) (false ∷ vs) l e = absurd (cons_not_nil _ _ e)
no_values code (false ∷ us) (true ∷ vs) l e = absurd (cons_not_nil _ _ e)
no_values code (false ∷ us) (false ∷ vs) l e = ap (λ (r : List Bool). false ∷ r) (no_values (suc code) us vs (omega arith) e)

-- a time with a value to write
pub some_values : (n : ℕ) (xs : List ℕ) → (xs ≡ [] → ⊥) → at_time n xs ≡ time_line n ++ xs
unfolding at_time
some_values n [] h = absurd (h refl)
some_values n (x ∷ xs) h = refl

-- how long they are at most
pub time_within : (n : ℕ) → length (time_line n) ≤ 22
unfolding line_text
time_within n = let h = decimal_within 20 (time_of n) in simp length-append (omega arith)

pub value_within : (changed : Bool) (code : ℕ) (level : Bool) → length (pick changed (value_line code level) []) ≤ 3
unfolding line_text pick
value_within true code level = omega arith
value_within false code level = omega arith

pub values_within : (code : ℕ) (us vs : List Bool) → length (value_lines code us vs) ≤ 3 * length vs
unfolding value_lines line_text pick
values_within code us [] = omega arith
values_within code [] (v ∷ vs) = let h = values_within (suc code) [] vs in omega arith
values_within code (true ∷ us) (true ∷ vs) = let h = values_within (suc code) us vs in omega arith
values_within code (true ∷ us) (false ∷ vs) = let h = values_within (suc code) us vs in omega arith
values_within code (false ∷ us) (true ∷ vs) = let h = values_within (suc code) us vs in omega arith
values_within code (false ∷ us) (false ∷ vs) = let h = values_within (suc code) us vs in omega arith

pub at_time_within : (n : ℕ) (xs : List ℕ) → length (at_time n xs) ≤ 22 + length xs
unfolding at_time
at_time_within n [] = omega arith
at_time_within n (x ∷ xs) = let h = time_within n in simp length-append (omega arith)
