-- `room` meets its contract: its three ways are one difference, which is 0 where nothing is left. Assumes nothing.
use Prim.Native.Nat.{◌+◌, ◌-◌}
use mathlib.Core.Path.{◌≡◌, ap}
use native.Mathlib.Omega.{arith}
use Rattle.dividers.specs.Divider.{room_of}
use Rattle.dividers.proofs.Laws.Divider.{ticks_of}
use Rattle.dividers.proofs.divider.room.Goals as goal

pub returns-then-period-eq0 : goal.returns-then-period-eq0
unfolding room_of
returns-then-period-eq0 c =
    let a = c.args in
    let none : 0 ≡ a.period.0 - (a.phase.0 + 1) = omega arith in
    ap ticks_of none

pub returns-then-phase-last : goal.returns-then-phase-last
unfolding room_of
returns-then-phase-last c =
    let a = c.args in
    let left : (a.period.0 - 1) - a.phase.0 ≡ a.period.0 - (a.phase.0 + 1) = omega arith in
    ap ticks_of left

pub returns : goal.returns
unfolding room_of
returns c =
    let a = c.args in
    let none : 0 ≡ a.period.0 - (a.phase.0 + 1) = omega arith in
    ap ticks_of none
