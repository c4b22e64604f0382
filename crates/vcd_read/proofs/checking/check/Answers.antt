-- `check` meets its contract. The invariant of its loop: the bytes that are left lead to the end that is asked. Assumes nothing.
use mathlib.Core.Path.{sym, ◌∙◌}
use Rattle.vcd_read.specs.Scan.{in_table}
use Rattle.vcd_read.proofs.Laws.Checking.{checked_next, checked_end}
use Rattle.vcd_read.proofs.checking.check.Goals as goal

pub loop-byte-init : goal.loop-byte-init
loop-byte-init c = rw c.start.ensures

pub loop-byte-preserved : goal.loop-byte-preserved
loop-byte-preserved c =
    rw c.check_byte-checked.ensures (sym (checked_next c.args.text.now c.loop-byte.byte-index (in_table c.args.codes.now) c.loop-byte.checked c.loop-byte-test.true) ∙ c.loop-byte.invariant)

pub returns : goal.returns
returns c =
    sym (checked_end c.args.text.now c.loop-byte.byte-index (in_table c.args.codes.now) c.loop-byte.checked c.loop-byte-test.false) ∙ c.loop-byte.invariant
