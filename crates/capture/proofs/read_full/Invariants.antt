-- `read_full` is safe and ends: the bytes still to fill grow fewer. Assumes nothing.
use Prim.Native.Nat.{◌-◌, ◌^◌, ◌≤◌, ◌<◌}
use mathlib.Core.Path.{◌≡◌}
use lib.ListN.{length}
use Rattle.capture.proofs.read_full.Given as goal

abbrev pub invariant-loop-length : goal.invariant-loop-length
invariant-loop-length g l = (length l.text ≡ length l.initial.text) × (l.length ≤ length l.text) × (length l.text < 2 ^ 64)

abbrev pub decreases-loop-length : goal.decreases-loop-length
decreases-loop-length g l = length l.text - l.length
