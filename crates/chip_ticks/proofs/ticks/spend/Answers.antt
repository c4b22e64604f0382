-- `spend` meets its contract: what is spent already and what the ticks that are left will spend is what all of them spend. Assumes nothing.
use Prim.Native.Nat.{ℕ, suc, ◌-◌, ◌≤◌}
use mathlib.Core.Path.{◌≡◌, sym, ◌∙◌}
use mathlib.Core.Bool.{Bool, false}
use native.Mathlib.Omega.{arith}
use Rattle.dividers.proofs.Laws.Divider.{ticks_of}
use Rattle.chip_device.specs.declared.device.Device.{Device}
use Rattle.chip_fast.specs.declared.fast.Hopped.{Hopped}
use Rattle.chip_fast.specs.Fast.{hop_of}
use Rattle.chip_ticks.specs.Ticks.{is_over}
use Rattle.chip_ticks.proofs.Laws.{starts, hop_within, hops, ends, not_over}
use Rattle.chip_ticks.proofs.ticks.spend.Goals as goal

-- in a turn it is not over, and a hop is within what is left
on : (watch : Bool) (left : ℕ) (x : Device) (over : Bool) → over ≡ is_over watch left x → over ≡ false → is_over watch left x ≡ false
on watch left x over e idle = sym e ∙ idle

within : (watch : Bool) (left : ℕ) (x : Device) (h : Hopped) → is_over watch left x ≡ false → h ≡ hop_of x (ticks_of (left - 1))
    → suc h.still.0 ≤ left
within watch left x h idle made = (hop_within left x h (not_over watch left x idle).0 made).1

pub loop-over-init : goal.loop-over-init
loop-over-init c = (c.is_over-over.ensures, starts _ _ _ c.requires)

pub overflow_sub-left : goal.overflow_sub-left
overflow_sub-left c =
    let some = (not_over _ _ _ (on _ _ _ _ c.loop-over.invariant.0 c.loop-over-test.true)).0 in
    omega (arith, some)

pub overflow_add-left : goal.overflow_add-left
overflow_add-left c =
    let l = within _ _ _ _ (on _ _ _ _ c.loop-over.invariant.0 c.loop-over-test.true) c.hop-hopped.ensures in
    let most = c.loop-over.invariant.1.most in
    let fits = c.ranges in
    record { fits = omega (arith, l, most, fits) }

pub overflow_sub-left-in-loop-over : goal.overflow_sub-left-in-loop-over
overflow_sub-left-in-loop-over c =
    let l = within _ _ _ _ (on _ _ _ _ c.loop-over.invariant.0 c.loop-over-test.true) c.hop-hopped.ensures in
    omega (arith, l)

pub loop-over-smaller : goal.loop-over-smaller
loop-over-smaller c =
    let l = within _ _ _ _ (on _ _ _ _ c.loop-over.invariant.0 c.loop-over-test.true) c.hop-hopped.ensures in
    omega (arith, l)

pub loop-over-preserved : goal.loop-over-preserved
loop-over-preserved c =
    let at = c.loop-over in
    (c.is_over-over-in-loop-over.ensures, hops _ _ _ _ _ _ at.invariant.1 (on _ _ _ _ c.loop-over.invariant.0 c.loop-over-test.true) c.hop-hopped.ensures)

pub overflow_sub-result : goal.overflow_sub-result
overflow_sub-result c = c.loop-over.invariant.1.most

pub returns : goal.returns
returns c =
    let at = c.loop-over in
    ends _ _ _ at.left at.state at.invariant.1 (sym at.invariant.0 ∙ c.loop-over-test.false)
