-- `hear_wire` meets its contract. The invariant of its loop: the bytes that are left lead to the log that is asked. Assumes nothing.
use Prim.Native.Nat.{◌*◌, ◌^◌, ◌≤◌, ◌<◌}
use lib.ListN.{drop}
use Rattle.text.proofs.Laws.Pages.{Remains}
use Rattle.vcd_lines.specs.Body.{started}
use Rattle.vcd_read.proofs.Laws.Checking.{Within}
use Rattle.vcd_capture.specs.Logs.{log_bytes}
use Rattle.vcd_capture.specs.Ear.{heard_from, just_enabled}
use Rattle.vcd_capture.proofs.ear.hear_wire.Given as goal

abbrev pub invariant-loop-byte : goal.invariant-loop-byte
invariant-loop-byte l =
    Within l.reading.place × (l.ear.done < 2 ^ 32) × (l.page.at ≤ 2 * l.ear.done)
    × Remains (log_bytes (heard_from l.wire.period l.wire.setting l.wire.code l.end started just_enabled l.lines)) l.initial.page
    (log_bytes (heard_from l.wire.period l.wire.setting l.wire.code l.end l.reading l.ear (drop l.byte-index l.lines))) l.page
