-- The output pins after some events, one by one: 255 less a byte has each bit turned over, and the byte is made of what drives each pin.
-- Assumes nothing.
use Prim.Native.Nat.{ℕ, ◌+◌, ◌-◌}
use mathlib.Core.Path.{◌≡◌, refl, ◌∙◌, ap}
use mathlib.Core.Bool.{Bool, true, false, not}
use mathlib.Core.List.{List}
use native.Mathlib.Omega.{arith}
use Rattle.format.specs.Pick.{pick}
use Rattle.byte_bits.specs.Bytes.{has_bit, weight_of, byte_of}
use Rattle.outputs.specs.declared.outputs.Outputs.{Outputs}
use Rattle.outputs.specs.Outputs.{driven_by, driven_op3, op_levels}
use Rattle.chip_answers.specs.declared.answers.Lines.{Lines}
use Rattle.chip_answers.specs.Answers.{timer_level, lines_of}
use Rattle.events.specs.declared.events.Event.{Event}
use Rattle.demands.specs.Chip.{shows, lines_after}
use Rattle.demands.specs.Clocks.{front_after}
use Rattle.demands.proofs.Laws.Run.{run_front}
use Rattle.demands.proofs.Laws.Bits.{bit_7, bit_6, bit_5, bit_4, bit_3, bit_2, bit_1, bit_0}
use Rattle.demands.proofs.Laws.Looks.{chip, lines_after_lem, interrupts_shown}

pub not_twice : (b : Bool) → not (not b) ≡ b
not_twice true = refl
not_twice false = refl

-- ---- the complement ----

weighs_all : (b : Bool) (w : ℕ) → weight_of b w + weight_of (not b) w ≡ w
unfolding weight_of pick
weighs_all true w = omega arith
weighs_all false w = omega arith

turned_over : (b7 b6 b5 b4 b3 b2 b1 b0 : Bool)
    → 255 - byte_of b7 b6 b5 b4 b3 b2 b1 b0 ≡ byte_of (not b7) (not b6) (not b5) (not b4) (not b3) (not b2) (not b1) (not b0)
unfolding byte_of
turned_over b7 b6 b5 b4 b3 b2 b1 b0 =
    omega (
      arith,
      weighs_all b7 128,
      weighs_all b6 64,
      weighs_all b5 32,
      weighs_all b4 16,
      weighs_all b3 8,
      weighs_all b2 4,
      weighs_all b1 2,
      weighs_all b0 1,
    )

-- ---- the pins ----

-- the level that OPCR may choose for OP3
abbrev pub timer_at : ℕ → List Event → Bool
timer_at levels es = timer_level (front_after levels es) (shows chip levels es 5)

pins_after : (levels : ℕ) (es : List Event)
    → (lines_after chip levels es).op ≡ op_levels (front_after levels es).outputs (shows chip levels es 5) (timer_at levels es)
unfolding lines_of
pins_after levels es = ap (λ (x : Lines). x.op) (lines_after_lem levels es) ∙ rw (run_front levels es, interrupts_shown levels es)

-- OP7 to OP4 are the complement of what OPCR chooses, OP3 too, and the rest that of their output bits
pub record Pins (op : ℕ) (o : Outputs) (isr : ℕ) (timer : Bool) : Type 0 where
  pub op7 : has_bit op 7 ≡ not (driven_by o isr 7 4)
  pub op6 : has_bit op 6 ≡ not (driven_by o isr 6 0)
  pub op5 : has_bit op 5 ≡ not (driven_by o isr 5 5)
  pub op4 : has_bit op 4 ≡ not (driven_by o isr 4 1)
  pub op3 : has_bit op 3 ≡ not (driven_op3 o timer)
  pub op2 : has_bit op 2 ≡ not (has_bit o.bits 2)
  pub op1 : has_bit op 1 ≡ not (has_bit o.bits 1)
  pub op0 : has_bit op 0 ≡ not (has_bit o.bits 0)

pins_of : (o : Outputs) (isr : ℕ) (timer : Bool) → Pins (op_levels o isr timer) o isr timer
unfolding op_levels
pins_of o isr timer =
    rw turned_over
    (record {
      op7 = bit_7 _ _ _ _ _ _ _ _;
      op6 = bit_6 _ _ _ _ _ _ _ _;
      op5 = bit_5 _ _ _ _ _ _ _ _;
      op4 = bit_4 _ _ _ _ _ _ _ _;
      op3 = bit_3 _ _ _ _ _ _ _ _;
      op2 = bit_2 _ _ _ _ _ _ _ _;
      op1 = bit_1 _ _ _ _ _ _ _ _;
      op0 = bit_0 _ _ _ _ _ _ _ _;
    })

pub pins : (levels : ℕ) (es : List Event)
    → Pins (lines_after chip levels es).op (front_after levels es).outputs (shows chip levels es 5) (timer_at levels es)
pins levels es = rw (pins_after levels es) (pins_of _ _ _)
