-- `frame_length` meets its contract: at most ten bits before the stop and a stop of at most 32 pulses, so every sum fits. Assumes nothing.
use Prim.Native.Nat.{ℕ, ◌≤◌}
use mathlib.Core.Path.{◌≡◌}
use native.Mathlib.Nat.{one-mul}
use native.Mathlib.Omega.{arith}
use Rattle.format.specs.declared.counts.Bits.{Bits}
use Rattle.format.specs.Format.{format_of}
use Rattle.frame.specs.Levels.{bits_before_stop_of, frame_length_of}
use Rattle.format.specs.Pick.{pick}
use Rattle.frame.proofs.Laws.Levels.{before_stop_most}
use Rattle.format.proofs.Laws.Stop.{stop_most, bits_most}
use Rattle.frame.proofs.levels.frame_length.Goals as goal

ten : (b : Bits) (mr1 : ℕ) → b ≡ bits_before_stop_of (format_of mr1) → b.0 ≤ 10
ten b mr1 e = rw e (before_stop_most mr1)

pub overflow_mul-result : goal.overflow_mul-result
overflow_mul-result c = let t = ten _ _ c.bits_before_stop-bits.ensures in omega arith

pub overflow_add-result : goal.overflow_add-result
overflow_add-result c =
    let t = ten _ _ c.bits_before_stop-bits.ensures in
    let s : c.stop_length.result.0 ≤ 32 = rw c.stop_length.ensures (stop_most _ _) in
    omega arith

pub returns-then-sixteen : goal.returns-then-sixteen
unfolding frame_length_of pick
returns-then-sixteen c =
    simp (
      c.if-sixteen.true,
      c.bits_before_stop-bits.ensures,
      c.stop_length.ensures,
      c.format_of-format.ensures,
      c.stop_code_of-code.ensures,
    )

pub overflow_add-result-2 : goal.overflow_add-result-2
overflow_add-result-2 c =
    let t = ten _ _ c.bits_before_stop-bits.ensures in
    let s : c.stop_bits.result.0 ≤ 2 = rw c.stop_bits.ensures (bits_most _) in
    omega arith

pub returns : goal.returns
unfolding frame_length_of pick
returns c =
    simp (
      c.if-sixteen.false,
      c.bits_before_stop-bits.ensures,
      c.stop_bits.ensures,
      c.stop_code_of-code.ensures,
      one-mul,
    )
