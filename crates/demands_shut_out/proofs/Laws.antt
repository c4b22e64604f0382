-- The laws of registers, interrupts and outputs shut wrong chips out; so do demand 1, the numbers, what is said of refused events, and what is said of
-- pulses. A law is taken at a few events, where what the wrong one answers and what the law says are computed, and differ. Assumes nothing.
use Prim.Native.Nat.{ℕ, ◌<◌, ◌≤◌}
use mathlib.Core.Path.{refl, sym, ◌∙◌, ap}
use mathlib.Core.Bool.{true, false, not, ◌&&◌, ◌||◌, true≢false}
use mathlib.Core.List.{List, [], ◌∷◌, ◌++◌}
use native.Mathlib.Omega.{arith}
use borrow.Author.Tests.{eqb-false}
use lib.Dec.{eqb}
use lib.ListN.{get_or, replicate}
use Rattle.format.specs.Format.{format_of}
use Rattle.format.specs.Pick.{pick}
use Rattle.frame.specs.Levels.{levels, frame}
use Rattle.chip_device.specs.Device.{fresh_device}
use Rattle.chip_step.specs.Chip.{step_of}
use Rattle.chip_step.specs.Chip.{refused_of}
use Rattle.clocks.specs.Pulses.Side.{receives, transmits}
use Rattle.request.specs.declared.request.FrameAnswer.{FrameAnswer}
use Rattle.events.specs.declared.events.Event.{Event}
use Rattle.events.specs.declared.events.Event.TheVariants.{ChipReset, Read, Write, Acknowledge, Pins, Tick}
use Rattle.chip_device.specs.declared.device.Device.{Device}
use Rattle.chip_laws.specs.Lists.{Seen}
use Rattle.chip_laws.specs.Table.{Step}
use Rattle.chip_laws.proofs.Wrong as Wrong
use Rattle.chip_laws.proofs.Wrong.{is_read_of}
use Rattle.demands.specs.Chip.{Chip, chip_of}
use Rattle.demands.specs.Chip.Channel.{A}
use Rattle.demands.specs.Clocks.{pulsed_after}
use Rattle.demands.specs.Registers.{Registers, Interrupts, Outputs}
use Rattle.demands.specs.Numbers.{number_after, Numbers}
use Rattle.demands.specs.Demand1.{Request, Demand1}
use Rattle.demands.specs.Counted.{timer_then, timer_from}
use Rattle.demands.specs.Pulses.{Pulsing, tick_event, code_after, Pulses, sent_since, Ones}
use Rattle.demands.specs.Reached.{accepted, Reached, Unaltered}
use Rattle.demands.specs.Cases.{heard}
use Rattle.demands_shut_out.proofs.Chips.{does_nothing, vector_stuck, hides_ready, never_asserts, acknowledges_always, shows_bits, ignores_opcr}
use Rattle.demands_shut_out.proofs.Chips.{reset_keeps_vector, changed, is_write_of, same_frame, one_more, clears_refused}
use Rattle.demands.proofs.Laws.Looks.{asking}
use Rattle.demands.proofs.Computing.{computing}

-- ---- more that are wrong ----

-- 3: "read of register 2 or 10": a read of 2 is accepted
abbrev reads_command : Chip
reads_command = changed (λ e x. pick (is_read_of 2 e) (record { number = 0; byte = x.byte; fresh = x.fresh; lines = x.lines }) x)

-- "A write while disabled is ignored": it is refused
abbrev refuses_disabled : Step
refuses_disabled d e = pick (is_write_of 3 e && not d.front.a.transmitter.enabled) (refused_of d 4) (step_of d e)

-- "(a start or a change of ACR gives no pulse)": a start gives one
abbrev pulses_at_start : Pulsing
pulses_at_start side ch levels es e = pulsed_after side ch levels es e || (is_read_of 14 e && eqb (code_after side ch es) 13)

-- "13: the timer's toggle to high": it is no clock
abbrev timer_silent : Pulsing
timer_silent side ch levels es e = pulsed_after side ch levels es e && not (eqb (code_after side ch es) 13)

-- ---- the events ----

abbrev vector : List Event
vector = Write 12 64 ∷ []

-- a character on receiver A, at 1X
abbrev arrived : List Event
arrived = Write 0 16 ∷ Write 1 255 ∷ Write 2 1 ∷ heard (true ∷ frame false (format_of 16) 7 1)

-- code 13, and a timer on ticks, preload 1: its output is low
abbrev turned : List Event
turned = Write 1 221 ∷ Write 7 1 ∷ Write 4 96 ∷ Tick ∷ []

-- ---- shut out ----

code_fixed : 11 < 13
code_fixed = omega arith

lent_enough : 160 ≤ 192
lent_enough = omega arith

pub record WrongLaws : Type 0 where
  -- the last byte written to IVR, else 15
  pub no_vector_stuck : Registers vector_stuck → ⊥
  pub no_does_nothing : Registers does_nothing → ⊥
  pub no_reset_keeps_vector : Registers (chip_of reset_keeps_vector) → ⊥
  -- "A status read that takes a character."
  pub no_status_takes : Registers (chip_of Wrong.status_takes) → ⊥
  -- IRQ, the acknowledge, and ISR bit 0
  pub no_never_asserts : Interrupts never_asserts → ⊥
  pub no_acknowledges_always : Interrupts acknowledges_always → ⊥
  pub no_hides_ready : Interrupts hides_ready → ⊥
  -- OP0, and OP6
  pub no_shows_bits : Outputs shows_bits → ⊥
  pub no_ignores_opcr : Outputs (chip_of ignores_opcr) → ⊥
  -- a number that is not given where it should be, and one that is given where it should not be
  pub no_reads_command : Numbers reads_command → ⊥
  pub no_refuses_disabled : Numbers (chip_of refuses_disabled) → ⊥
  pub no_acknowledges_always_number : Numbers acknowledges_always → ⊥
  -- "the chip's state unaltered", "with data 0"
  pub no_refused_acts : Unaltered (chip_of Wrong.refused_acts) → ⊥
  pub no_leaves_byte : Unaltered (chip_of Wrong.leaves_byte) → ⊥
  -- the reset, the pins' levels after it, and a refused event
  pub no_refuses_reset : Reached Wrong.refuses_reset → ⊥
  pub no_lowers_pins : Reached Wrong.lowers_pins → ⊥
  pub no_refused_acts_reached : Reached Wrong.refused_acts → ⊥
  -- demand 1: the table, and the frame request, whatever answers the events
  pub no_refuses_all : (r : Request) → Demand1 Wrong.refuses_all r → ⊥
  pub no_same_frame : (step : Step) (a : FrameAnswer) (space : List ℕ) → Demand1 step (same_frame a space) → ⊥
  pub no_one_more : (step : Step) → Demand1 step one_more → ⊥
  pub no_clears_refused : (step : Step) → Demand1 step clears_refused → ⊥
  -- no pulse at all, one at every tick, one at a start, and none of the timer
  pub no_never_pulses : Pulses (λ side ch levels es e. false) → ⊥
  pub no_every_tick : Pulses (λ side ch levels es e. tick_event e) → ⊥
  pub no_pulses_at_start : Pulses pulses_at_start → ⊥
  pub no_timer_silent : Pulses timer_silent → ⊥
  -- a 1X transmitter clock that never comes, and one that comes with each pulse
  pub no_never_one : Ones pulsed_after (λ ch levels es e. false) → ⊥
  pub no_each_one : Ones pulsed_after (pulsed_after transmits) → ⊥

pub wrong_laws : WrongLaws
unfolding computing accepted number_after heard timer_then timer_from sent_since
wrong_laws =
    record {
      no_vector_stuck = λ h. eqb-false 15 64 refl (h.vector 255 vector);
      no_does_nothing = λ h. eqb-false 15 64 refl (h.vector 255 vector);
      no_reset_keeps_vector = λ h. eqb-false 64 15 refl (h.vector 255 (vector ++ ChipReset ∷ []));
      no_status_takes = λ h. eqb-false 0 1 refl (ap (λ (x : Seen). x.byte) (h.looks 255 1 arrived [] (Read 1) refl));
      no_never_asserts = λ h. true≢false (sym (h.asserted 255 asking));
      no_acknowledges_always = λ h. eqb-false 0 6 refl (h.acknowledge 255 []);
      no_hides_ready = λ h. true≢false (sym (h.ready 255 A asking));
      no_shows_bits = λ h. true≢false (sym (h.plain 255 0 [] (omega arith)));
      no_ignores_opcr = λ h. true≢false (h.chosen 255 6 (Write 13 64 ∷ asking) (omega arith) (omega arith));
      no_reads_command = λ h. eqb-false 0 3 refl (h 255 [] (Read 2));
      no_refuses_disabled = λ h. eqb-false 4 0 refl (h 255 [] (Write 3 85));
      no_acknowledges_always_number = λ h. eqb-false 0 6 refl (h 255 [] Acknowledge);
      no_refused_acts = λ h.
          eqb-false 19 0 refl (ap (λ (x : Seen). x.byte) (h.refused 255 [] (Write 0 19 ∷ []) (Write 0 128) (Read 0) (eqb-false 5 0 refl)));
      no_leaves_byte = λ h. eqb-false 15 0 refl (h.silent 255 [] Acknowledge (eqb-false 6 0 refl));
      no_refuses_reset = λ h. eqb-false 1 0 refl (h.reset fresh_device refl);
      no_lowers_pins = λ h. eqb-false 192 255 refl (ap (λ (x : Seen). x.byte) (h.chip fresh_device [] (Read 13) refl));
      no_refused_acts_reached = λ h. true≢false (sym (ap (λ (d : Device). d.front.a.moved) (h.states fresh_device (Write 0 128 ∷ []))));
      no_refuses_all = λ r h. Wrong.no_refuses_all h.table;
      no_same_frame = λ step a space h.
          eqb-false 5 0 refl
          (sym (h.setting 128 7 0 [] refl) ∙ ap (λ (x : FrameAnswer). x.number) (h.given 19 7 0 (replicate 192 0) refl lent_enough));
      no_one_more = λ step h. eqb-false 161 160 refl (ap (λ (x : FrameAnswer). x.length.0) (h.given 19 7 0 (replicate 192 0) refl lent_enough));
      no_clears_refused = λ step h. eqb-false 0 1 refl (ap (λ (l : List ℕ). get_or l 0 2) (h.untouched 128 7 0 (1 ∷ []) (eqb-false 5 0 refl)));
      no_never_pulses = λ h. true≢false (sym (h.fixed receives A 255 (Write 1 187 ∷ replicate 23 Tick) Tick code_fixed));
      no_every_tick = λ h. true≢false (h.fixed receives A 255 (Write 1 187 ∷ []) Tick code_fixed);
      no_pulses_at_start = λ h. true≢false (h.only receives A 255 (Write 1 221 ∷ Write 4 96 ∷ []) (Read 14) refl);
      no_timer_silent = λ h. true≢false (sym (h.toggle receives A 255 turned Tick refl refl));
      no_never_one = λ h. true≢false (sym (h.each A 255 (Write 1 255 ∷ []) (Pins 247) refl));
      no_each_one = λ h. true≢false (h.sixteenth A 255 (Write 1 238 ∷ []) (Pins 247) (eqb-false 14 15 refl));
    }
