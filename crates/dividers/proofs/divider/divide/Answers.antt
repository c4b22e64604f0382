-- `divide` meets its contract: below the period a tick more can be counted, and the two tests are the one of the definition. Assumes nothing.
use Prim.Native.Nat.{◌+◌, ◌≤◌, ◌<◌}
use native.Mathlib.Omega.{arith}
use borrow.Author.Tests.{lt-ltb, le-ltb}
use Rattle.format.proofs.Laws.Pick.{pick_yes, pick_no}
use Rattle.dividers.specs.Divider.{divided_of}
use Rattle.dividers.proofs.divider.divide.Goals as goal

pub returns-then-next-period : goal.returns-then-next-period
unfolding divided_of
returns-then-next-period c =
    let a = c.args in
    let below : a.phase.0 + 1 < a.period.0 = omega arith in
    rw (pick_yes _ _ _ (lt-ltb _ _ below))

pub returns-else-next-period : goal.returns-else-next-period
unfolding divided_of
returns-else-next-period c =
    let a = c.args in
    let past : a.period.0 ≤ a.phase.0 + 1 = omega arith in
    rw (pick_no _ _ _ (le-ltb _ _ past))

pub returns-else-phase-period : goal.returns-else-phase-period
unfolding divided_of
returns-else-phase-period c =
    let a = c.args in
    let past : a.period.0 ≤ a.phase.0 + 1 = omega arith in
    rw (pick_no _ _ _ (le-ltb _ _ past))
