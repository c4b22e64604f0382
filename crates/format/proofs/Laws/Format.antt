-- What MR1 can choose: 5 to 8 data bits and, where it is not refused, a parity of three. Assumes nothing.
use Prim.Native.Nat.{ℕ, ◌/◌, ◌%◌, ◌≤◌}
use mathlib.Core.Path.{◌≡◌, refl}
use mathlib.Core.Bool.{Bool, true, false, ◌||◌}
use native.Mathlib.Omega.{arith}
use lib.Dec.{eqb}
use borrow.Author.Tests.{eqb-false}
use Rattle.format.specs.Format.{mr1_not_modelled, format_of}

pub width_least : (mr1 : ℕ) → 5 ≤ (format_of mr1).width.0
unfolding format_of
width_least mr1 = omega arith

pub width_most : (mr1 : ℕ) → (format_of mr1).width.0 ≤ 8
unfolding format_of
width_most mr1 = omega arith

neither : (a b : Bool) → a || b ≡ false → b ≡ false
neither true true e = e
neither true false e = refl
neither false b e = e

-- with, forced or none
pub parity_most : (mr1 : ℕ) → mr1_not_modelled mr1 ≡ false → (format_of mr1).parity ≤ 2
unfolding format_of
parity_most mr1 e =
    let other = eqb-false (mr1 / 8 % 4) 3 (neither (eqb (mr1 / 128 % 2) 1) (eqb (mr1 / 8 % 4) 3) e) in
    omega arith
