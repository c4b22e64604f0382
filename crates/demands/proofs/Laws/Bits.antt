-- A byte made of eight bits has them: each weight is its bit as a number times the weight, and dividing leaves the bit. Assumes nothing.
use Prim.Native.Nat.{ℕ, ◌+◌, ◌*◌, ◌/◌, ◌%◌, ◌^◌, ◌≤◌}
use mathlib.Core.Path.{◌≡◌, refl}
use mathlib.Core.Bool.{Bool, true, false}
use native.Mathlib.Omega.{arith}
use lib.Dec.{ltb}
use Rattle.format.specs.Digits.{bit}
use Rattle.format.specs.Pick.{pick}
use Rattle.byte_bits.specs.Bytes.{has_bit, weight_of, byte_of}

weighs : (b : Bool) (w : ℕ) → weight_of b w ≡ bit b * w
unfolding weight_of pick
weighs true w = omega arith
weighs false w = omega arith

at_most_one : (b : Bool) → bit b ≤ 1
at_most_one true = omega arith
at_most_one false = omega arith

-- four at once
record Four (x y z t : ℕ) : Type 0 where
  pub first : x ≤ 1
  pub second : y ≤ 1
  pub third : z ≤ 1
  pub fourth : t ≤ 1

four : (b c d e : Bool) → Four (bit b) (bit c) (bit d) (bit e)
four b c d e = record { first = at_most_one b; second = at_most_one c; third = at_most_one d; fourth = at_most_one e }

has_bit_lem : (x n : ℕ) (b : Bool) → ltb n 8 ≡ true → x / 2 ^ n % 2 ≡ bit b → has_bit x n ≡ b
unfolding has_bit pick
has_bit_lem x n true l e = rw (l, e)
has_bit_lem x n false l e = rw (l, e)

byte_sum : (b7 b6 b5 b4 b3 b2 b1 b0 : Bool)
    → byte_of b7 b6 b5 b4 b3 b2 b1 b0
    ≡ bit b7 * 128 + bit b6 * 64 + bit b5 * 32 + bit b4 * 16 + bit b3 * 8 + bit b2 * 4 + bit b1 * 2 + bit b0
unfolding byte_of
byte_sum b7 b6 b5 b4 b3 b2 b1 b0 = rw (weighs b7, weighs b6, weighs b5, weighs b4, weighs b3, weighs b2, weighs b1, weighs b0) (omega arith)

pub bit_7 : (b7 b6 b5 b4 b3 b2 b1 b0 : Bool) → has_bit (byte_of b7 b6 b5 b4 b3 b2 b1 b0) 7 ≡ b7
bit_7 b7 b6 b5 b4 b3 b2 b1 b0 = rw (byte_sum b7 b6 b5 b4 b3 b2 b1 b0) (has_bit_lem _ 7 b7 refl (omega (arith, four b7 b6 b5 b4, four b3 b2 b1 b0)))

pub bit_6 : (b7 b6 b5 b4 b3 b2 b1 b0 : Bool) → has_bit (byte_of b7 b6 b5 b4 b3 b2 b1 b0) 6 ≡ b6
bit_6 b7 b6 b5 b4 b3 b2 b1 b0 = rw (byte_sum b7 b6 b5 b4 b3 b2 b1 b0) (has_bit_lem _ 6 b6 refl (omega (arith, four b7 b6 b5 b4, four b3 b2 b1 b0)))

pub bit_5 : (b7 b6 b5 b4 b3 b2 b1 b0 : Bool) → has_bit (byte_of b7 b6 b5 b4 b3 b2 b1 b0) 5 ≡ b5
bit_5 b7 b6 b5 b4 b3 b2 b1 b0 = rw (byte_sum b7 b6 b5 b4 b3 b2 b1 b0) (has_bit_lem _ 5 b5 refl (omega (arith, four b7 b6 b5 b4, four b3 b2 b1 b0)))

pub bit_4 : (b7 b6 b5 b4 b3 b2 b1 b0 : Bool) → has_bit (byte_of b7 b6 b5 b4 b3 b2 b1 b0) 4 ≡ b4
bit_4 b7 b6 b5 b4 b3 b2 b1 b0 = rw (byte_sum b7 b6 b5 b4 b3 b2 b1 b0) (has_bit_lem _ 4 b4 refl (omega (arith, four b7 b6 b5 b4, four b3 b2 b1 b0)))

pub bit_3 : (b7 b6 b5 b4 b3 b2 b1 b0 : Bool) → has_bit (byte_of b7 b6 b5 b4 b3 b2 b1 b0) 3 ≡ b3
bit_3 b7 b6 b5 b4 b3 b2 b1 b0 = rw (byte_sum b7 b6 b5 b4 b3 b2 b1 b0) (has_bit_lem _ 3 b3 refl (omega (arith, four b7 b6 b5 b4, four b3 b2 b1 b0)))

pub bit_2 : (b7 b6 b5 b4 b3 b2 b1 b0 : Bool) → has_bit (byte_of b7 b6 b5 b4 b3 b2 b1 b0) 2 ≡ b2
bit_2 b7 b6 b5 b4 b3 b2 b1 b0 = rw (byte_sum b7 b6 b5 b4 b3 b2 b1 b0) (has_bit_lem _ 2 b2 refl (omega (arith, four b7 b6 b5 b4, four b3 b2 b1 b0)))

pub bit_1 : (b7 b6 b5 b4 b3 b2 b1 b0 : Bool) → has_bit (byte_of b7 b6 b5 b4 b3 b2 b1 b0) 1 ≡ b1
bit_1 b7 b6 b5 b4 b3 b2 b1 b0 = rw (byte_sum b7 b6 b5 b4 b3 b2 b1 b0) (has_bit_lem _ 1 b1 refl (omega (arith, four b7 b6 b5 b4, four b3 b2 b1 b0)))

pub bit_0 : (b7 b6 b5 b4 b3 b2 b1 b0 : Bool) → has_bit (byte_of b7 b6 b5 b4 b3 b2 b1 b0) 0 ≡ b0
bit_0 b7 b6 b5 b4 b3 b2 b1 b0 = rw (byte_sum b7 b6 b5 b4 b3 b2 b1 b0) (has_bit_lem _ 0 b0 refl (omega (arith, four b7 b6 b5 b4, four b3 b2 b1 b0)))
