-- `put_lines` meets its contract. The invariant of its loop: the lines of what is left of the log lead to the end that is
-- asked. Assumes nothing.
use Prim.Native.Nat.{ℕ, ◌+◌, ◌*◌, ◌/◌}
use mathlib.Core.Path.{◌≡◌}
use mathlib.Core.List.{List, []}
use native.Mathlib.Omega.{arith}
use lib.ListN.{length, get_or}
use Rattle.text.proofs.Laws.Chunks.{piece_byte}
use Rattle.text.proofs.Laws.Pages.{remains_all, remains_as, remains_then, remains_none}
use Rattle.capture.proofs.Laws.{lines_next, lines_end, line_within}
use Rattle.capture.proofs.lines.put_lines.Goals as goal

pub loop-data-init : goal.loop-data-init
loop-data-init c = (omega arith, remains_all _ _)

pub loop-data-preserved : goal.loop-data-preserved
loop-data-preserved c =
    let a = c.args in
    let i = c.loop-data.data-index in
    let log : List ℕ = a.log.now in
    let pieces : List (List ℕ) = c.as_chunks.result.0.now in
    let first : get_or (get_or pieces i []) 0 0 ≡ get_or log (2 * i) 0 =
    let e : 2 * i + 0 ≡ 2 * i = omega arith in
    rw (c.as_chunks.ensures.front, piece_byte 2 (length log / 2) i 0 log (omega arith) (omega arith), e) in
    let second : get_or (get_or pieces i []) 1 0 ≡ get_or log (2 * i + 1) 0 =
    rw c.as_chunks.ensures.front (piece_byte 2 (length log / 2) i 1 log (omega arith) (omega arith)) in
    let p = rw (first, second) at c.put_line.ensures in
    let then : 2 * i + 2 ≡ 2 * (i + 1) = omega arith in
    let next = rw then at (lines_next a.letter log (2 * i) (omega arith)) in
    let w = line_within a.letter (get_or log (2 * i) 0) (get_or log (2 * i + 1) 0) in
    (omega (arith, p.puts.ends), remains_then (remains_as next c.loop-data.invariant.1) p)

pub returns : goal.returns
returns c =
    let a = c.args in
    remains_none (remains_as (lines_end a.letter a.log.now (2 * c.loop-data.data-index) (omega arith)) c.loop-data.invariant.1)
