-- `run` meets its contract: its tests are the refusals in their order, and what is spent is what is spent. Assumes nothing.
use Prim.Native.Nat.{◌≤◌}
use mathlib.Core.Path.{sym, ◌∙◌}
use mathlib.Core.Bool.{true}
use native.Mathlib.Omega.{arith}
use Rattle.chip_ticks.proofs.Laws.{spent_most, run_unsound, run_over, run_within}
use Rattle.chip_ticks.proofs.until_irq.run.Goals as goal

pub returns-then-not-is_sound : goal.returns-then-not-is_sound
returns-then-not-is_sound c = simp (c.no_lines.ensures, c.number.ensures) (run_unsound _ _ (sym c.is_sound.ensures ∙ c.if-not-is_sound.true))

pub returns-then-budget-gt-MOST_TICKS : goal.returns-then-budget-gt-MOST_TICKS
returns-then-budget-gt-MOST_TICKS c =
    let sound = sym c.is_sound.ensures ∙ c.if-not-is_sound.false in
    simp (c.device_lines.ensures, c.number-then-budget-gt-MOST_TICKS.ensures) (run_over _ _ sound c.if-budget-gt-MOST_TICKS.true)

pub spend-spent-requires : goal.spend-spent-requires
spend-spent-requires c = sym c.is_sound.ensures ∙ c.if-not-is_sound.false

pub overflow_cast-result : goal.overflow_cast-result
overflow_cast-result c =
    let most : c.spend-spent.result.ticks ≤ c.args.budget = rw c.spend-spent.ensures (spent_most true _ _) in
    let within = c.if-budget-gt-MOST_TICKS.false in
    record { fits = omega (arith, most, within) }

pub returns : goal.returns
returns c =
    let sound = sym c.is_sound.ensures ∙ c.if-not-is_sound.false in
    let within = c.if-budget-gt-MOST_TICKS.false in
    simp (c.device_lines-2.ensures, c.spend-spent.ensures) (run_within _ _ sound (omega (arith, within)))
