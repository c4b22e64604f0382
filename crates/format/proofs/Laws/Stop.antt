-- The stop length: its numbers lie between 9 and 32, and are one or two at 1X. Assumes nothing.
use Prim.Native.Nat.{ℕ, ◌/◌, ◌%◌, ◌≤◌}
use native.Mathlib.Omega.{arith}
use lib.Dec.{eqb, ltb}
use Rattle.format.specs.declared.counts.Bits.{Bits}
use Rattle.format.specs.Stop.{stop_length_of, stop_bits_of}
use Rattle.format.proofs.Laws.Pick.{pick_all}

-- 9 to 32 sixteenths with a 16X clock; one bit or two with a 1X clock
pub stop_least : (w : Bits) (c : ℕ) → 9 ≤ (stop_length_of w c).0
unfolding stop_length_of
stop_least w c = pick_all (λ (n : ℕ). 9 ≤ n) (eqb w.0 5) _ _ (omega arith) (pick_all (λ (n : ℕ). 9 ≤ n) (ltb (c % 16) 8) _ _ (omega arith) (omega arith))

pub stop_most : (w : Bits) (c : ℕ) → (stop_length_of w c).0 ≤ 32
unfolding stop_length_of
stop_most w c = pick_all (λ (n : ℕ). n ≤ 32) (eqb w.0 5) _ _ (omega arith) (pick_all (λ (n : ℕ). n ≤ 32) (ltb (c % 16) 8) _ _ (omega arith) (omega arith))

pub bits_least : (c : ℕ) → 1 ≤ (stop_bits_of c).0
unfolding stop_bits_of
bits_least c = pick_all (λ (n : ℕ). 1 ≤ n) (eqb (c / 8 % 2) 1) _ _ (omega arith) (omega arith)

pub bits_most : (c : ℕ) → (stop_bits_of c).0 ≤ 2
unfolding stop_bits_of
bits_most c = pick_all (λ (n : ℕ). n ≤ 2) (eqb (c / 8 % 2) 1) _ _ (omega arith) (omega arith)
