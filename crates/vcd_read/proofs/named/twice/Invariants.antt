-- `twice` meets its contract. The invariant of its loop: the wires that are left decide. Assumes nothing.
use mathlib.Core.Path.{◌≡◌}
use Rattle.vcd_read.specs.Wires.{left, twice_of}
use Rattle.vcd_read.proofs.named.twice.Given as goal

abbrev pub invariant-loop-wire : goal.invariant-loop-wire
invariant-loop-wire l = twice_of (left l.wires) ≡ twice_of (left l.fn.wires)
