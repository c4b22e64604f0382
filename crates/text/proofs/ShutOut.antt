-- Wrong text, shut out by the definition: a routine that wrote it would not meet its contract. Assumes nothing.
use Prim.Native.Nat.{ℕ, ◌+◌, ◌%◌}
use mathlib.Core.Path.{◌≡◌, ap}
use mathlib.Core.Bool.{◌&&◌, true≢false}
use mathlib.Core.List.{List, [], ◌∷◌}
use native.Mathlib.Omega.{arith}
use lib.Dec.{ltb}
use lib.ListN.{get_or}
use Rattle.std.proofs.Common.{Some}
use Rattle.format.specs.Pick.{pick}
use Rattle.text.specs.Decimal.{decimal_of}
use Rattle.text.specs.Numbers.{digit, value_after}

-- each digit over the one before it, so that the last stands alone
no_last_digit_alone : ((n : ℕ) → (48 + n % 10) ∷ [] ≡ decimal_of 3 n) → ⊥
unfolding decimal_of pick
no_last_digit_alone h = omega (arith, ap (λ (l : List ℕ). get_or l 0 0) (h 12))

-- a number is digits alone: 43 is +
no_sign_is_digit : ((b : ℕ) → (ltb 42 b && ltb b 58) ≡ digit b) → ⊥
no_sign_is_digit h = true≢false (h 43)

-- 40,000,000,000 is no 4,000,000,000
no_digits_dropped : Some 4000000000 ≡ value_after 4000000000 48 → ⊥
unfolding value_after pick
no_digits_dropped h = cc
