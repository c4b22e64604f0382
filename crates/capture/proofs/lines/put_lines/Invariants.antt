-- `put_lines` meets its contract. The invariant of its loop: the lines of what is left of the log lead to the page that is
-- asked. Assumes nothing.
use Prim.Native.Nat.{◌+◌, ◌*◌, ◌≤◌}
use lib.ListN.{drop}
use Rattle.text.proofs.Laws.Pages.{Remains}
use Rattle.capture.specs.Lines.{character_lines}
use Rattle.capture.proofs.lines.put_lines.Given as goal

abbrev pub invariant-loop-data : goal.invariant-loop-data
invariant-loop-data l =
    (l.page.at ≤ l.initial.page.at + 10 * l.data-index)
    × Remains (character_lines l.letter l.log) l.initial.page (character_lines l.letter (drop (2 * l.data-index) l.log)) l.page
