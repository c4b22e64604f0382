-- `check` meets its contract. The invariant of its loop: the bytes that are left lead to the end that is asked. Assumes nothing.
use mathlib.Core.Path.{◌≡◌}
use lib.ListN.{drop}
use Rattle.vcd_read.specs.Scan.{in_table, checked_of, unchecked}
use Rattle.vcd_read.proofs.checking.check.Given as goal

abbrev pub invariant-loop-byte : goal.invariant-loop-byte
invariant-loop-byte l =
    checked_of (in_table l.codes) l.checked (drop l.byte-index l.text) ≡ checked_of (in_table l.codes) unchecked l.text
