-- `divide_by_16` meets its contract: below 15 there is room for one pulse more. Assumes nothing.
use Prim.Native.Nat.{◌+◌, ◌≤◌, ◌<◌}
use native.Mathlib.Omega.{arith}
use borrow.Author.Tests.{lt-ltb, le-ltb}
use Rattle.format.proofs.Laws.Pick.{pick_yes, pick_no}
use Rattle.dividers.specs.Divider.{sixteenth_of}
use Rattle.dividers.proofs.divider.divide_by_16.Goals as goal

pub returns-then-phase-lt15 : goal.returns-then-phase-lt15
unfolding sixteenth_of
returns-then-phase-lt15 c =
    let a = c.args in
    let below : a.phase.0 + 1 < 16 = omega arith in
    rw (pick_yes _ _ _ (lt-ltb _ _ below))

pub returns : goal.returns
unfolding sixteenth_of
returns c =
    let a = c.args in
    let past : 16 ≤ a.phase.0 + 1 = omega arith in
    rw (pick_no _ _ _ (le-ltb _ _ past))
