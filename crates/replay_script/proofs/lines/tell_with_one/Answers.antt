-- `tell_with_one` meets its contract: each way through the tests is the definition's. Assumes nothing.
use Prim.Native.Nat.{◌≤◌, ◌<◌}
use native.Mathlib.Omega.{arith}
use Rattle.format.proofs.Laws.{steps}
use Rattle.replay_script.specs.Lines.{told_with_one}
use Rattle.replay_script.proofs.lines.tell_with_one.Goals as goal

pub returns-in_default : goal.returns-in_default
unfolding told_with_one
returns-in_default c = rw c.in_default.is

pub returns-then-number-le-MOST : goal.returns-then-number-le-MOST
unfolding told_with_one
returns-then-number-le-MOST c = rw c.in-Some.is (search steps)

pub returns-then-name-eq-TICK : goal.returns-then-name-eq-TICK
unfolding told_with_one
returns-then-name-eq-TICK c = rw c.in-Some.is (search steps)

pub returns-in-Ok : goal.returns-in-Ok
unfolding told_with_one
returns-in-Ok c = rw (c.in-Some.is, c.tell_with_byte.ensures) (let (l, e) = c.in-Ok.ensures in let m : c.in-Some.number ≤ 255 = omega (arith, l) in rw e (search steps))

pub returns-in-Err : goal.returns-in-Err
unfolding told_with_one
returns-in-Err c = rw c.in-Some.is (let m : 255 < c.in-Some.number = omega (arith, c.in-Err.ensures) in search steps)
