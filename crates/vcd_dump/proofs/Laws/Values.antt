-- The values of the lines as a word: its eleven bits are the values. Assumes nothing.
use Prim.Native.Nat.{ℕ, ◌+◌, ◌*◌, ◌/◌, ◌%◌, ◌^◌, ◌<◌}
use mathlib.Core.Path.{◌≡◌, refl, sym, ◌∙◌, ap}
use mathlib.Core.Bool.{Bool, true, false, not}
use mathlib.Core.List.{List, [], ◌∷◌}
use native.Mathlib.Omega.{arith}
use native.Mathlib.Nat.{pow-succ'}
use lib.Dec.{eqb}
use lib.ListN.{length}
use Rattle.format.specs.Digits.{bit, bits_of, value_of}
use Rattle.format.proofs.Laws.Digits.{length_bits, value_bits, bit_small}
use Rattle.chip_answers.specs.declared.answers.Lines.{Lines}
use Rattle.vcd_dump.specs.Waves.{values_of}

lowest_bit : (b : Bool) (v : ℕ) → eqb ((bit b + 2 * v) % 2) 1 ≡ b
lowest_bit true v = let e : (1 + 2 * v) % 2 ≡ 1 = omega arith in rw e
lowest_bit false v = let e : (0 + 2 * v) % 2 ≡ 0 = omega arith in rw e

bits_value : (vs : List Bool) → bits_of (length vs) (value_of vs) ≡ vs
unfolding bits_of value_of
bits_value [] = refl
bits_value (v ∷ vs) =
    let small = bit_small v in
    let half : (bit v + 2 * value_of vs) / 2 ≡ value_of vs = omega arith in
    rw (half, lowest_bit v (value_of vs), bits_value vs)

value_small : (vs : List Bool) → value_of vs < 2 ^ length vs
unfolding value_of
value_small [] = omega arith
value_small (v ∷ vs) =
    let small = bit_small v in
    let h = value_small vs in
    rw (pow-succ' 2 (length vs)) (omega arith)

eleven : (l : Lines) → length (values_of l) ≡ 11
eleven l = rw (length_bits 8 l.op)

pub values_bits : (l : Lines) → bits_of 11 (value_of (values_of l)) ≡ values_of l
values_bits l = ap (λ (n : ℕ). bits_of n (value_of (values_of l))) (sym (eleven l)) ∙ bits_value (values_of l)

pub values_small : (l : Lines) → value_of (values_of l) < 2 ^ 11
values_small l = rw (eleven l) at (value_small (values_of l))

-- the word that the code adds up
pub values_sum : (l : Lines) → l.op < 256
    → bit l.txda + 2 * bit l.txdb + 4 * bit (not l.irq) + 8 * l.op ≡ value_of (values_of l)
unfolding value_of
values_sum l h = let v = value_bits 8 l.op in omega (arith, v)
