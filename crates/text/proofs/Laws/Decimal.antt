-- Numbers in decimal: with no place, with one digit, and with more; how long, and back. By induction on the places. Assumes nothing.
use Prim.Native.Nat.{ℕ, zero, suc, ◌+◌, ◌-◌, ◌/◌, ◌%◌, ◌≤◌, ◌<◌}
use mathlib.Core.Path.{◌≡◌, refl}
use mathlib.Core.List.{[], ◌∷◌, ◌++◌}
use native.Mathlib.Omega.{arith}
use lib.ListN.{length, length-append}
use borrow.Author.Tests.{lt-ltb, le-ltb}
use Rattle.format.specs.Pick.{pick}
use Rattle.format.proofs.Laws.Pick.{pick_all}
use Rattle.text.specs.Decimal.{decimal_of}
use mathlib.Core.List.{List}

pub decimal_none : (k n : ℕ) → k ≡ 0 → decimal_of k n ≡ []
unfolding decimal_of
decimal_none k n e = rw e

pub decimal_last : (k n : ℕ) → (k ≡ 0 → ⊥) → n < 10 → decimal_of k n ≡ (48 + n) ∷ []
unfolding decimal_of pick
decimal_last zero n h l = absurd (h refl)
decimal_last (suc k) n h l = rw (lt-ltb n 10 l)

pub decimal_more : (k n : ℕ) → (k ≡ 0 → ⊥) → 10 ≤ n → decimal_of k n ≡ decimal_of (k - 1) (n / 10) ++ (48 + n % 10) ∷ []
unfolding decimal_of pick
decimal_more zero n h l = absurd (h refl)
decimal_more (suc k) n h l =
    let e : suc k - 1 ≡ k = omega arith in
    rw (le-ltb n 10 l, e)

-- it has no more digits than places
pub decimal_within : (k n : ℕ) → length (decimal_of k n) ≤ k
unfolding decimal_of
decimal_within zero n = omega arith
decimal_within (suc k) n =
    let h = decimal_within k (n / 10) in
    pick_all (λ (l : List ℕ). length l ≤ suc k) _ _ _ (omega arith)
    (simp length-append (omega arith))
