-- `list_byte` meets its contract: after each turn the line holds one level more, and the last answer is a bit further. Assumes nothing.
use mathlib.Core.Path.{◌≡◌}
use native.Mathlib.Omega.{arith}
use Rattle.lister_line.proofs.Laws.Turns.{start, turn, ends}
use Rattle.lister_line.proofs.line.list_byte.Goals as goal

pub loop-level-init : goal.loop-level-init
loop-level-init c = start _

pub loop-level-preserved : goal.loop-level-preserved
loop-level-preserved c =
    let at = c.loop-level in
    rw (c.tick_times-last.ensures, c.level_digit.ensures, c.tick_times-middle.ensures)
    (turn _ at.last at.level-items at.level-index at.invariant)

pub returns-clause-value : goal.returns-clause-value
returns-clause-value c =
    let at = c.loop-level in
    let ten : at.level-index ≡ 10 = omega arith in
    ends _ _ _ at.last at.level-items at.level-index ten c.step-last.ensures at.invariant
