-- `codes_of` meets its contract. The invariant of its loop: the wires that are left fill the rest. Assumes nothing.
use mathlib.Core.Path.{◌≡◌}
use mathlib.Core.Bool.{false}
use lib.ListN.{replicate}
use Rattle.vcd_read.specs.Wires.{left, filled}
use Rattle.vcd_read.proofs.named.codes_of.Given as goal

abbrev pub invariant-loop-wire : goal.invariant-loop-wire
invariant-loop-wire l = filled (left l.wire-iterator) l.codes ≡ filled (left l.fn.wires) (replicate 256 false)
