-- `weight_of` meets its contract: once the weight where the bit is set, else none of it. Assumes nothing.
use Prim.Native.Nat.{ℕ, ◌*◌, ◌≤◌}
use mathlib.Core.Path.{◌≡◌}
use mathlib.Core.Bool.{Bool, true, false}
use native.Mathlib.Omega.{arith}
use mir.Val.{bool_byte}
use Rattle.format.specs.Pick.{pick}
use Rattle.byte_bits.specs.Bytes.{weight_of}
use Rattle.byte_bits.proofs.bytes.weight_of.Goals as goal

times : (bit : Bool) (weight : ℕ) → (bool_byte bit * weight ≡ weight_of bit weight) × (bool_byte bit * weight ≤ weight)
unfolding weight_of pick
times true weight = (omega arith, omega arith)
times false weight = (omega arith, omega arith)

pub returns : goal.returns
returns c = rw c.from.ensures (times c.args.bit c.args.weight)
