-- `after` meets its contract. The invariant of its loop: what stands after the wires stays. Assumes nothing.
use mathlib.Core.Path.{◌≡◌}
use Rattle.vcd_read.specs.Wires.{beyond}
use Rattle.vcd_read.proofs.wires.after.Given as goal

abbrev pub invariant-loop : goal.invariant-loop
invariant-loop l = beyond l.wires ≡ beyond l.fn.wires
