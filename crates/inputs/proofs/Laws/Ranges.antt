-- The change flags stay four bits: those that are set stay, and the new ones are four bits too. Assumes nothing.
use Prim.Native.Nat.{ℕ, ◌%◌, ◌≤◌}
use native.Mathlib.Omega.{arith}
use lib.Bits.{bit_xor, or_lt}
use Rattle.inputs.specs.declared.inputs.Inputs.{Inputs}
use Rattle.inputs.specs.Inputs.{moved_of}

pub moved_most : (i : Inputs) (levels : ℕ) → i.changes ≤ 15 → (moved_of i levels).changes ≤ 15
unfolding moved_of
moved_most i levels h =
    let most = or_lt 4 i.changes (bit_xor i.levels levels % 16) (omega arith) (omega arith) in
    omega arith
