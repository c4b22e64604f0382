-- What OPCR may hold, written out: computed over all 256 bytes; and the levels where it turns no pin. Assumes nothing.
use Prim.Native.Nat.{ℕ, ◌-◌, ◌<◌}
use mathlib.Core.Path.{◌≡◌, refl, ap}
use mathlib.Core.Bool.{Bool}
use mathlib.Core.List.{[], ◌∷◌}
use Rattle.format.proofs.Laws.Numbers.{accepted}
use Rattle.format.specs.Pick.{pick}
use Rattle.byte_bits.specs.Bytes.{has_bit}
use Rattle.byte_bits.proofs.Laws.{own_bits}
use Rattle.outputs.specs.declared.outputs.Outputs.{Outputs}
use Rattle.outputs.specs.Outputs.{opcr_not_modelled, driven_by, driven_op3, op_levels}

-- "Not modelled (5): .. OPCR bits 1-0 not 00, or bits 3-2 = 10 or 11.": the bytes that are accepted, of all 256. The statement takes the test that
-- it speaks of.
abbrev pub Modelled : (ℕ → Bool) → Type 0
Modelled opcr =
    accepted opcr 256 0
    ≡ 0 ∷ 4 ∷ 16 ∷ 20 ∷ 32 ∷ 36 ∷ 48 ∷ 52 ∷ 64 ∷ 68 ∷ 80 ∷ 84 ∷ 96 ∷ 100 ∷ 112 ∷ 116
    ∷ 128 ∷ 132 ∷ 144 ∷ 148 ∷ 160 ∷ 164 ∷ 176 ∷ 180 ∷ 192 ∷ 196 ∷ 208 ∷ 212 ∷ 224 ∷ 228 ∷ 240 ∷ 244 ∷ []

pub modelled : Modelled opcr_not_modelled
modelled = refl

-- "OP pins are the complement of the output bits."
pub plain_levels : (o : Outputs) (isr : ℕ) (timer : Bool) → o.opcr ≡ 0 → o.bits < 256 → op_levels o isr timer ≡ 255 - o.bits
unfolding op_levels driven_by driven_op3 has_bit pick
plain_levels o isr timer e l = rw e (ap (λ (x : ℕ). 255 - x) (own_bits o.bits l))
