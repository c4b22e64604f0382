-- Wrong answers, each shut out by a definition: a routine that gave it would not meet its contract. Assumes nothing.
use Prim.Native.Nat.{ℕ, ◌/◌, ◌%◌, ◌^◌, ◌<◌}
use mathlib.Core.Path.{◌≡◌, ap}
use mathlib.Core.Bool.{Bool, true, false, false≢true}
use mathlib.Core.List.{List}
use native.Mathlib.Omega.{arith}
use lib.Dec.{eqb}
use lib.ListN.{get_or}
use Rattle.format.specs.Pick.{pick}
use Rattle.byte_bits.specs.Bytes.{has_bit, weight_of, byte_of}
use Rattle.byte_bits.proofs.Laws.{Weighs}

no_bit_above : ((byte number : ℕ) → number < 8 → eqb (byte / 2 ^ number / 2 % 2) 1 ≡ has_bit byte number) → ⊥
unfolding has_bit pick
no_bit_above h = false≢true (h 1 0 (omega arith))

no_bit0_lost :
    ((b7 b6 b5 b4 b3 b2 b1 b0 : Bool) → byte_of b7 b6 b5 b4 b3 b2 b1 false ≡ byte_of b7 b6 b5 b4 b3 b2 b1 b0)
    → ⊥
unfolding byte_of weight_of pick
no_bit0_lost h = omega (arith, h false false false false false false false true)

-- Bits 6 and 5 exchanged where a byte is put together and where it is looked at: each undoes the other, and what is wrong is refused by document 01's
-- numbers alone.
abbrev six_for_five : ℕ → ℕ
six_for_five n = pick (eqb n 6) 5 (pick (eqb n 5) 6 n)

no_six_for_five :
    Weighs (λ (byte n : ℕ). has_bit byte (six_for_five n)) (λ (b7 b6 b5 b4 b3 b2 b1 b0 : Bool). byte_of b7 b5 b6 b4 b3 b2 b1 b0) → ⊥
unfolding byte_of weight_of pick
no_six_for_five h = omega (arith, ap (λ (l : List ℕ). get_or l 5 0) h.weights)
