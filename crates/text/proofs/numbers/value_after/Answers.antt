-- `value_after` meets its contract: what does not fit 64 bits is above the most. Assumes nothing.
use Prim.Native.Nat.{ℕ, ◌+◌, ◌-◌, ◌*◌, ◌≤◌, ◌<◌}
use mathlib.Core.Path.{◌≡◌, sym, ◌∙◌}
use native.Mathlib.Omega.{arith}
use borrow.Author.Tests.{lt-leb, le-leb}
use Rattle.std.proofs.Common.{Some, None}
use Rattle.format.proofs.Laws.Pick.{pick_yes, pick_no}
use Rattle.text.specs.Numbers.{value_after}
use Rattle.text.proofs.numbers.value_after.Goals as goal

above : (n b : ℕ) → 4000000000 < n * 10 + (b - 48) → None ≡ value_after n b
unfolding value_after
above n b h = sym (pick_no _ _ _ (lt-leb _ _ h))

within : (n b m : ℕ) → m ≡ n * 10 + (b - 48) → m ≤ 4000000000 → Some m ≡ value_after n b
unfolding value_after
within n b m e h = rw e (sym (pick_yes _ _ _ (le-leb _ _ (rw e at h))))

pub returns-in_err-checked_mul : goal.returns-in_err-checked_mul
returns-in_err-checked_mul c = c.from_residual.ensures ∙ above _ _ (omega (arith, c.in_err-checked_mul.ensures))

pub returns-in_err-longer : goal.returns-in_err-longer
returns-in_err-longer c =
    let m = c.in_ok-checked_mul.ensures in
    c.from_residual-in_err-longer.ensures ∙ above _ _ (omega (arith, m, c.in_err-longer.ensures, c.from.ensures, c.digit_value.ensures))

pub returns-then-longer-le-MOST : goal.returns-then-longer-le-MOST
returns-then-longer-le-MOST c =
    let m = c.in_ok-checked_mul.ensures in
    let a = c.in_ok-longer.ensures in
    within _ _ _ (omega (arith, m, a, c.from.ensures, c.digit_value.ensures)) c.if-longer-le-MOST.true

pub returns-else-longer-le-MOST : goal.returns-else-longer-le-MOST
returns-else-longer-le-MOST c =
    let m = c.in_ok-checked_mul.ensures in
    let a = c.in_ok-longer.ensures in
    above _ _ (omega (arith, m, a, c.from.ensures, c.digit_value.ensures, c.if-longer-le-MOST.false))
