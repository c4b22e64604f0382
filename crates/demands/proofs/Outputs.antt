-- Each output pin is the complement of what drives it: the output bits and OPCR, which the events tell, and ISR, which is shown. Assumes nothing.
use Prim.Native.Nat.{ℕ, zero, suc, ◌<◌, ◌/◌, ◌%◌}
use mathlib.Core.Path.{◌≡◌, ◌∙◌}
use mathlib.Core.Bool.{true, false, not}
use mathlib.Core.List.{List}
use native.Mathlib.Omega.{arith}
use lib.Dec.{eqb}
use Rattle.format.specs.Pick.{pick}
use Rattle.byte_bits.specs.Bytes.{has_bit}
use Rattle.outputs.specs.Outputs.{driven_by, driven_op3}
use Rattle.timer_state.specs.Counting.{mode_of}
use Rattle.timer.specs.Modes.{timer_in}
use Rattle.timer.proofs.Modes.{timer_mode}
use Rattle.chip_answers.specs.Answers.{timer_level}
use Rattle.events.specs.declared.events.Event.{Event}
use Rattle.chip_step.specs.Chip.{step_of}
use Rattle.demands.specs.Chip.{chip_of, over, shows, lines_after}
use Rattle.demands.specs.Clocks.{front_after}
use Rattle.demands.specs.Registers.{outputs_then, opcr_then, mode_after, source_of, Outputs}
use Rattle.demands.proofs.Laws.Told.{acr_told}
use Rattle.demands.proofs.Laws.Ports.{outputs_told, opcr_told}
use Rattle.demands.proofs.Laws.Looks.{chip}
use Rattle.demands.proofs.Laws.Pins.{not_twice, pins}

-- ---- OP2 to OP0 ----

plain_shown : (levels pin : ℕ) (es : List Event) → pin < 3
    → has_bit (lines_after chip levels es).op pin ≡ not (has_bit (over outputs_then 0 es) pin)
plain_shown levels zero es h = rw (outputs_told levels es) (pins levels es).op0
plain_shown levels (suc zero) es h = rw (outputs_told levels es) (pins levels es).op1
plain_shown levels (suc (suc zero)) es h = rw (outputs_told levels es) (pins levels es).op2
plain_shown levels (suc (suc (suc pin))) es h = absurd (omega arith)

-- ---- OP7 to OP4 ----

chosen_shown : (levels pin : ℕ) (es : List Event) → 3 < pin → pin < 8
    → has_bit (lines_after chip levels es).op pin
    ≡ not (pick (has_bit (over opcr_then 0 es) pin) (has_bit (shows chip levels es 5) (source_of pin)) (has_bit (over outputs_then 0 es) pin))
unfolding driven_by pick
chosen_shown levels zero es h k = absurd (omega arith)
chosen_shown levels (suc zero) es h k = absurd (omega arith)
chosen_shown levels (suc (suc zero)) es h k = absurd (omega arith)
chosen_shown levels (suc (suc (suc zero))) es h k = absurd (omega arith)
chosen_shown levels (suc (suc (suc (suc zero)))) es h k = rw (opcr_told levels es, outputs_told levels es) (pins levels es).op4
chosen_shown levels (suc (suc (suc (suc (suc zero))))) es h k = rw (opcr_told levels es, outputs_told levels es) (pins levels es).op5
chosen_shown levels (suc (suc (suc (suc (suc (suc zero)))))) es h k = rw (opcr_told levels es, outputs_told levels es) (pins levels es).op6
chosen_shown levels (suc (suc (suc (suc (suc (suc (suc zero))))))) es h k = rw (opcr_told levels es, outputs_told levels es) (pins levels es).op7
chosen_shown levels (suc (suc (suc (suc (suc (suc (suc (suc pin)))))))) es h k = absurd (omega arith)

-- ---- OP3 ----

third_shown : (levels : ℕ) (es : List Event) → eqb (over opcr_then 0 es / 4 % 4) 1 ≡ false
    → has_bit (lines_after chip levels es).op 3 ≡ not (has_bit (over outputs_then 0 es) 3)
unfolding driven_op3 pick
third_shown levels es h =
    let k = rw (opcr_told levels es) at h in
    rw (outputs_told levels es) ((pins levels es).op3 ∙ rw k)

counter_shown : (levels : ℕ) (es : List Event) → eqb (over opcr_then 0 es / 4 % 4) 1 ≡ true → timer_in (mode_after es) ≡ false
    → has_bit (lines_after chip levels es).op 3 ≡ not (has_bit (shows chip levels es 5) 3)
unfolding driven_op3 timer_level pick
counter_shown levels es h m =
    let k = rw (opcr_told levels es) at h in
    let j = timer_mode (mode_of (front_after levels es).acr) ∙ rw (acr_told levels es) at m in
    (pins levels es).op3 ∙ rw (k, j) (not_twice _)

pub outputs : Outputs (chip_of step_of)
outputs = record { plain = plain_shown; chosen = chosen_shown; third = third_shown; counter = counter_shown }
