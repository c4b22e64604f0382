-- `hear_wire` meets its contract. The invariant of its loop: the bytes that are left lead to the log that is asked. Assumes nothing.
use native.Mathlib.Omega.{arith}
use borrow.Author.Rules.{rules}
use lib.ListN.{get_or}
use Rattle.text.proofs.Laws.Pages.{remains_all, remains_as, remains_then, remains_last, puts_there}
use Rattle.vcd_lines.specs.Body.{said_of}
use mathlib.Core.Bool.{true}
use Rattle.vcd_read.proofs.Laws.Checking.{time_within}
use Rattle.vcd_capture.specs.Logs.{log_bytes}
use Rattle.vcd_capture.specs.Ear.{heard_said}
use Rattle.vcd_capture.proofs.Laws.Hearing.{said_within, said_fits, heard-next, heard-end}
use Rattle.vcd_capture.proofs.ear.hear_wire.Goals as goal

pub loop-byte-init : goal.loop-byte-init
loop-byte-init c =
    (rw c.start-reading.ensures tt, omega arith, omega arith, rw (c.start-reading.ensures, c.drop_assembly.ensures) (remains_all _ _))

pub loop-byte-preserved : goal.loop-byte-preserved
loop-byte-preserved c =
    let x = c.args in
    let i = c.loop-byte.byte-index in
    let b = get_or x.lines.now i 0 in
    let m = rw c.say-said.ensures at c.hear_said-ear.ensures in
    let w = said_within x.wire.period x.wire.setting x.wire.code c.loop-byte.ear (said_of c.loop-byte.reading b) c.loop-byte.page.at c.loop-byte.invariant.1 c.loop-byte.invariant.2
    (said_fits c.loop-byte.reading b c.loop-byte.invariant.0) in
    let told = log_bytes (heard_said x.wire.period x.wire.setting c.loop-byte.ear (said_of c.loop-byte.reading b)) in
    let place = m.writes.puts.ends in (
      rw c.take-reading.ensures (time_within c.loop-byte.reading b true),
      rw m.ear w.0,
      rw m.ear (omega (arith, w.1)),
      rw (c.take-reading.ensures, m.ear)
          (remains_then {x = told} (remains_as (heard-next x.wire.period x.wire.setting x.wire.code x.end c.loop-byte.reading c.loop-byte.ear x.lines.now i c.loop-byte-test.true) c.loop-byte.invariant.3) m.writes),
    )

pub returns : goal.returns
returns c =
    let x = c.args in
    let written = remains_last (remains_as (heard-end x.wire.period x.wire.setting x.wire.code x.end c.loop-byte.reading c.loop-byte.ear x.lines.now c.loop-byte.byte-index c.loop-byte-test.false) c.loop-byte.invariant.3)
    c.hear_until.ensures.writes in
    puts_there written.puts (search rules)
