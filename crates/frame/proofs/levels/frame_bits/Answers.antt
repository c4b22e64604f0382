-- `frame_bits` meets its contract: its number is the register's, by the law that counts it down from the whole register in steps of the first place
-- past the data. Assumes nothing.
use Prim.Native.Nat.{ℕ, ◌≤◌}
use mathlib.Core.Path.{◌≡◌, sym, ap₂, ◌∙◌}
use mathlib.Core.Bool.{Bool, true, false, not, ◌&&◌}
use native.Mathlib.Omega.{arith}
use Rattle.format.proofs.Laws.Format.{width_most}
use Rattle.frame.proofs.Laws.Register.{Weight, weight, parity_low, register_eq, register-high, register-low}
use Rattle.format.specs.declared.format.Format.{Format}
use Rattle.format.specs.Format.{format_of}
use Rattle.format.specs.Parity.{has_parity_of, parity_bit_of}
use Rattle.frame.proofs.levels.frame_bits.Goals as goal

-- a format that MR1 chooses has at most 8 data bits
narrow : (f : Format) (mr1 : ℕ) → f ≡ format_of mr1 → f.width.0 ≤ 8
narrow f mr1 e = rw e (width_most mr1)

weighed : (f : Format) (mr1 byte : ℕ) → f ≡ format_of mr1 → Weight f.width.0 byte
weighed f mr1 byte e = weight f.width.0 byte (narrow f mr1 e)

-- the code's test is the law's
low_is : (f : Format) (byte : ℕ) (h p t : Bool) → h ≡ has_parity_of f → p ≡ parity_bit_of f byte → h && not p ≡ t
    → parity_low f byte ≡ t
low_is f byte h p t eh ep e = sym (ap₂ (λ (a b : Bool). a && not b) eh ep) ∙ e

pub overflow_shl-past : goal.overflow_shl-past
overflow_shl-past c = let n = narrow _ _ c.format_of-format.ensures in omega arith

pub overflow_sub-register : goal.overflow_sub-register
overflow_sub-register c = let n = weighed _ _ c.args.byte c.format_of-format.ensures in omega arith

pub overflow_sub-result : goal.overflow_sub-result
overflow_sub-result c = let n = weighed _ _ c.args.byte c.format_of-format.ensures in omega arith

pub overflow_cast-result : goal.overflow_cast-result
overflow_cast-result c = let n = weighed _ _ c.args.byte c.format_of-format.ensures in omega arith

pub overflow_cast-result-2 : goal.overflow_cast-result-2
overflow_cast-result-2 c = let n = weighed _ _ c.args.byte c.format_of-format.ensures in omega arith

pub returns-then-parity_low : goal.returns-then-parity_low
returns-then-parity_low c =
    let f = c.format_of-format in
    let n = weighed _ _ c.args.byte f.ensures in
    let low = low_is f.result c.args.byte _ _ true c.has_parity.ensures c.parity_bit.ensures c.if-parity_low.true in
    let r = register-low f.result c.args.byte (narrow _ _ f.ensures) low in
    rw (← f.ensures) (register_eq _ _ (omega arith))

pub returns : goal.returns
returns c =
    let f = c.format_of-format in
    let n = weighed _ _ c.args.byte f.ensures in
    let high = low_is f.result c.args.byte _ _ false c.has_parity.ensures c.parity_bit.ensures c.if-parity_low.false in
    let r = register-high f.result c.args.byte (narrow _ _ f.ensures) high in
    rw (← f.ensures) (register_eq _ _ (omega arith))
