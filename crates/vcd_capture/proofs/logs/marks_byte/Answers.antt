-- `marks_byte` meets its contract: a mark as a number is its bit. Assumes nothing.
use Prim.Native.Nat.{ℕ, ◌*◌}
use mathlib.Core.Path.{◌≡◌}
use mathlib.Core.Bool.{Bool, true, false}
use native.Mathlib.Omega.{arith}
use mir.Val.{bool_byte}
use Rattle.format.specs.Pick.{pick}
use Rattle.vcd_capture.specs.Logs.{marks_byte}
use Rattle.vcd_capture.proofs.logs.marks_byte.Goals as goal

weighed : (weight : ℕ) (mark : Bool) → weight * bool_byte mark ≡ pick mark weight 0
unfolding pick
weighed weight true = omega arith
weighed weight false = omega arith

pub returns : goal.returns
unfolding marks_byte
returns c =
    let m = c.args.marks in
    rw (c.from.ensures, c.from-2.ensures, c.from-3.ensures, weighed 128 m.broken, weighed 64 m.framing, weighed 32 m.parity) (omega arith)
