-- What a parity bit is for: with it, the ones among the data bits in use and the parity bit are odd in number exactly where odd is chosen.
-- Assumes nothing.
use Prim.Native.Nat.{ℕ}
use mathlib.Core.Path.{◌≡◌, refl, ap, ◌∙◌}
use mathlib.Core.Bool.{Bool, true, false, not}
use mathlib.Core.List.{List, [], ◌∷◌, ◌++◌}
use borrow.Author.Tests.{eq-eqb}
use Rattle.format.specs.declared.format.Format.{Format}
use Rattle.format.specs.Pick.{pick}
use Rattle.format.specs.Digits.{odd_ones}
use Rattle.format.specs.Parity.{data_bits, parity_bit_of}

one_appended : (bs : List Bool) (b : Bool) → odd_ones (bs ++ (b ∷ [])) ≡ pick b (not (odd_ones bs)) (odd_ones bs)
unfolding odd_ones pick
one_appended [] true = refl
one_appended [] false = refl
one_appended (false ∷ bs) b = one_appended bs b
one_appended (true ∷ bs) true = ap not (one_appended bs true)
one_appended (true ∷ bs) false = ap not (one_appended bs false)

chosen : (o d : Bool) → pick (pick o (not d) d) (not d) d ≡ o
unfolding pick
chosen true true = refl
chosen true false = refl
chosen false true = refl
chosen false false = refl

pub with_parity : (f : Format) (x : ℕ) → f.parity ≡ 0 → odd_ones (data_bits f x ++ (parity_bit_of f x ∷ [])) ≡ f.odd
unfolding parity_bit_of pick
with_parity f x e = one_appended (data_bits f x) (parity_bit_of f x) ∙ rw (eq-eqb f.parity 0 e) (chosen f.odd (odd_ones (data_bits f x)))

-- forced: low, or high
pub forced_parity : (f : Format) (x : ℕ) → f.parity ≡ 1 → parity_bit_of f x ≡ f.odd
unfolding parity_bit_of pick
forced_parity f x e = rw e
