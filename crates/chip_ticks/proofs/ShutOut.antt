-- Wrong answers, each shut out by a definition: a routine that gave it would not meet its contract. Assumes nothing.
use mathlib.Core.Path.{◌≡◌, sym}
use mathlib.Core.Bool.{true, false, true≢false}
use native.Mathlib.Omega.{arith}
use Rattle.chip_answers.specs.Answers.{no_lines}
use Rattle.events.specs.declared.events.Event.TheVariants.{Acknowledge}
use Rattle.chip_device.specs.Device.{fresh_device}
use Rattle.chip_device.proofs.Examples.{five_flags}
use Rattle.chip_step.specs.declared.chip.Answer.{Answer}
use Rattle.chip_step.specs.Chip.{refusal_lines, step_of}
use Rattle.chip_laws.proofs.Computing.{computing}
use Rattle.chip_ticks.specs.Ticks.{spent_of, ticked}
use Rattle.chip_ticks.specs.Run.{run_refusal, run_of}
use Rattle.chip_ticks.proofs.Examples.{started, asserted}

abbrev first : Answer
first = record { number = 0; byte = 0; fresh = false; lines = no_lines; state = fresh_device }

-- a tick is an event of its own: "acknowledge while IRQ is not asserted" is answered 6, and a tick is not
no_acknowledges_for_ticks : ((a : Answer) → (step_of a.state Acknowledge).number ≡ (ticked 1 a).number) → ⊥
unfolding computing ticked
no_acknowledges_for_ticks h = omega (arith, h first)

-- so many ticks, and no tick less
no_tick_too_few : (ticked 2 first).state.front.timer.ticks.0 ≡ (ticked 3 first).state.front.timer.ticks.0 → ⊥
unfolding computing ticked
no_tick_too_few = omega arith

-- ---- a run ----

-- "zero if IRQ is asserted already"
no_ticks_once : 1 ≡ (run_of asserted 10).ticks → ⊥
unfolding computing spent_of run_refusal run_of
no_ticks_once = omega arith

-- "the number of single ticks to that state": one tick late; the budget, though IRQ came sooner
no_tick_late : 5 ≡ (run_of started 10).ticks → ⊥
unfolding computing spent_of run_refusal run_of
no_tick_late = omega arith

no_budget_reported : 10 ≡ (run_of started 10).ticks → ⊥
unfolding computing spent_of run_refusal run_of
no_budget_reported = omega arith

-- "Refusals, in this order and before any event: 1, .. 9 for a .. budget over its limit"; "up to 1,000,000"
no_nine_before_one : 9 ≡ run_refusal five_flags 1000001 → ⊥
unfolding computing run_refusal
no_nine_before_one = omega arith

no_full_budget_refused : 9 ≡ run_refusal fresh_device 1000000 → ⊥
unfolding computing run_refusal
no_full_budget_refused = omega arith

no_long_budget_taken : 0 ≡ run_refusal fresh_device 1000001 → ⊥
unfolding computing run_refusal
no_long_budget_taken = omega arith

-- a budget over its limit is refused where IRQ is asserted already, too
no_asserted_unrefused : 0 ≡ run_refusal asserted 1000001 → ⊥
unfolding computing run_refusal
no_asserted_unrefused = omega arith

-- "lines as that state drives them (for 1, all lines 0)"
no_lines_of_unsound : true ≡ (run_of five_flags 10).lines.txda → ⊥
unfolding computing run_refusal refusal_lines run_of
no_lines_of_unsound h = true≢false h

no_lines_none : false ≡ (run_of asserted 1000001).lines.irq → ⊥
unfolding computing run_refusal refusal_lines run_of
no_lines_none h = true≢false (sym h)
