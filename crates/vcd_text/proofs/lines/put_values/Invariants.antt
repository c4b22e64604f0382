-- `put_values` meets its contract. The invariant of its loop: the lines of the wires that are left lead to the page that is asked. A turn puts the
-- line of the next wire, if it has one. Assumes nothing.
use Prim.Native.Nat.{◌+◌, ◌*◌, ◌-◌, ◌≤◌}
use Rattle.format.specs.Digits.{bits_of}
use Rattle.text.proofs.Laws.Pages.{Remains}
use Rattle.vcd_text.specs.Changes.{value_lines}
use Rattle.vcd_text.specs.Words.{written_before}
use Rattle.vcd_text.proofs.lines.put_values.Given as goal

abbrev pub invariant-loop-code : goal.invariant-loop-code
invariant-loop-code l =
    (l.page.at ≤ l.initial.page.at + 3 * (l.code - 33))
    × Remains (value_lines 33 (written_before l.none 11 l.before) (bits_of 11 l.values)) l.initial.page
    (value_lines l.code (written_before l.none (44 - l.code) l.old) (bits_of (44 - l.code) l.new)) l.page
