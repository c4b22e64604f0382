-- What is said of a transmitter shuts wrong chips out: TxD, TxRDY and TxEMT after any events, and a character's levels from its start on. A law is taken
-- at a few events, where what the wrong one answers and what the law says are computed, and differ. Assumes nothing.
use Prim.Native.Nat.{ℕ, ◌+◌, ◌*◌, ◌/◌, ◌%◌, ◌<◌}
use mathlib.Core.Path.{refl, sym, ap}
use mathlib.Core.Bool.{not, ◌&&◌, true≢false}
use mathlib.Core.List.{List, [], ◌∷◌, ◌++◌}
use native.Mathlib.Omega.{arith}
use lib.Dec.{eqb}
use Rattle.format.specs.Pick.{pick}
use Rattle.chip_step.specs.Chip.{step_of}
use Rattle.transmitter_state.specs.declared.state.Transmitter.{Transmitter}
use Rattle.events.specs.declared.events.Event.{Event}
use Rattle.events.specs.declared.events.Event.TheVariants.{Read, Write, Pins}
use Rattle.chip_device.specs.declared.device.Device.{Device}
use Rattle.chip_step.specs.declared.chip.Answer.{Answer}
use Rattle.chip_laws.specs.Lists.{Seen}
use Rattle.chip_laws.specs.Table.{Step}
use Rattle.chip_laws.proofs.Wrong as Wrong
use Rattle.demands.specs.Chip.{chip_of}
use Rattle.demands.specs.Chip.Channel.{A, B}
use Rattle.demands.specs.Sending.{inputs_at, inputs_from, Transmits, Starts, keeps_from, pulses_from, Sends}
use Rattle.demands_shut_out.proofs.Chips.{is_write, is_write_of, never_sends, idles_at, leads_to, shown_by, keeps_first, ignores_cts, falls}
use Rattle.demands.proofs.Computing.{computing}

-- ---- more that are wrong ----

abbrev transmitter_a : Device → Transmitter
transmitter_a d = d.front.a.transmitter

abbrev transmitter_b : Device → Transmitter
transmitter_b d = d.front.b.transmitter

-- "TxD high": TxDA is low while nothing is sent
abbrev low_at_rest : Step
low_at_rest d e =
    let x : Answer = step_of d e in
    Wrong.with_lines x
    (record {
      irq = x.lines.irq;
      txda = x.lines.txda && not (eqb (transmitter_a x.state).phase 0);
      txdb = x.lines.txdb;
      op = x.lines.op;
    })

-- "6, 7 start, stop break": A's start does nothing
abbrev ignores_break : Step
ignores_break = idles_at (λ d e. is_write (λ n byte. eqb n 2 && eqb (byte / 16 % 8) 6) e)

-- "TxRDY: enabled and holding place empty.": A's comes back a pulse after a character's start; SR bit 2 and ISR bit 0
abbrev ready_late : Step
ready_late =
    shown_by
    (λ d n byte. pick (eqb (transmitter_a d).phase 1 && eqb (transmitter_a d).shifter.sent.0 1)
    (pick (eqb n 1) (byte / 8 * 8 + byte % 4) (pick (eqb n 5) (byte / 2 * 2) byte))
    byte)

-- B's never comes back after a character's start; SR bits 3, 2 and ISR bit 4
abbrev never_ready_again : Step
never_ready_again =
    shown_by
    (λ d n byte. pick (eqb (transmitter_b d).shifter.length.0 0) byte
    (pick (eqb n 9) (byte / 16 * 16 + byte % 4) (pick (eqb n 5) (byte / 32 * 32 + byte % 16) byte)))

-- "TxEMT: enabled, holding place and shifter empty.": it is as TxRDY
abbrev empty_as_ready : Step
empty_as_ready = shown_by (λ d n byte. pick (eqb n 1) (byte / 16 * 16 + byte / 4 % 2 * 8 + byte % 8) byte)

-- "A write while disabled is ignored": it is taken as if enabled for it
abbrev takes_disabled : Step
takes_disabled =
    leads_to
    (λ d e x. pick (is_write_of 3 e && not (transmitter_a d).enabled)
    (step_of (step_of (step_of d (Write 2 4)).state e).state (Write 2 8)).state
    x)

-- ---- the events ----

-- transmitter A at 1X, and 85 to send
abbrev enabled : ℕ → List Event
enabled mr2 = Write 0 19 ∷ Write 0 mr2 ∷ Write 1 255 ∷ Write 2 4 ∷ []

abbrev sends : ℕ → List Event
sends mr2 = enabled mr2 ++ Write 3 85 ∷ []

-- IP3 falls with IP0 low
abbrev falls_clear : Event
falls_clear = Pins 246

-- the start bit, and the lowest bit
abbrev started : List Event
started = sends 7 ++ falls ∷ []

abbrev lowest : List Event
lowest = falls ∷ Pins 255 ∷ falls ∷ []

-- transmitter B's start bit, by falling IP5
abbrev started_b : List Event
started_b = Write 9 255 ∷ Write 10 4 ∷ Write 11 85 ∷ Pins 223 ∷ []

-- a break begins
abbrev breaks : List Event
breaks = enabled 7 ++ Write 2 96 ∷ falls ∷ []

-- 84 replaces it
abbrev replaced : List Event
replaced = sends 7 ++ Write 3 84 ∷ []

-- CTS is high at a pulse, and low after it
abbrev cleared : List Event
cleared = sends 23 ++ falls ∷ Pins 254 ∷ []

-- ---- shut out ----

zero_ten : 0 < 10
zero_ten = omega arith

one_ten : 1 < 10
one_ten = omega arith

pub record WrongSending : Type 0 where
  -- TxD at rest, and in a break
  pub no_low_at_rest : Transmits (chip_of low_at_rest) → ⊥
  pub no_ignores_break : Transmits (chip_of ignores_break) → ⊥
  -- TxRDY and TxEMT
  pub no_ready_late : Transmits (chip_of ready_late) → ⊥
  pub no_never_ready_again : Transmits (chip_of never_ready_again) → ⊥
  pub no_empty_as_ready : Transmits (chip_of empty_as_ready) → ⊥
  -- a write while disabled, and a second one
  pub no_takes_disabled : Transmits (chip_of takes_disabled) → ⊥
  pub no_keeps_first_replaced : Transmits (chip_of keeps_first) → ⊥
  -- a character that CTS holds; a character's start: TxRDY, and TxEMT
  pub no_ignores_cts_waits : Sends (chip_of ignores_cts) → ⊥
  pub no_ready_late_goes : Sends (chip_of ready_late) → ⊥
  pub no_ready_late_leaves : Sends (chip_of ready_late) → ⊥
  pub no_empty_as_ready_busy : Sends (chip_of empty_as_ready) → ⊥
  -- the start bit; the lowest bit of the second write; the start bit once CTS is low
  pub no_never_sends : Sends never_sends → ⊥
  pub no_keeps_first : Sends (chip_of keeps_first) → ⊥
  pub no_ignores_cts : Sends (chip_of ignores_cts) → ⊥

pub wrong_sending : WrongSending
unfolding computing inputs_at inputs_from keeps_from pulses_from
wrong_sending =
    record {
      no_low_at_rest = λ h. true≢false (sym (h.line 255 A []));
      no_ignores_break = λ h. true≢false (h.line 255 A breaks);
      no_ready_late = λ h. true≢false (sym (h.ready 255 A started));
      no_never_ready_again = λ h. true≢false (sym (h.ready 255 B started_b));
      no_empty_as_ready = λ h. true≢false (h.empty 255 A started);
      no_takes_disabled = λ h. true≢false (sym (ap (λ (x : Seen). x.lines.txda) (h.ignored 255 85 A [] (enabled 7 ++ falls ∷ []) (Read 1) refl)));
      no_keeps_first_replaced = λ h. true≢false (ap (λ (x : Seen). x.lines.txda) (h.replaced 255 85 84 A (enabled 7) lowest (Read 1)));
      no_ignores_cts_waits = λ h. true≢false (h.waits 255 A (sends 23) falls refl refl refl);
      no_ready_late_goes = λ h. true≢false (sym (h.goes 255 A (sends 7) falls refl refl refl refl refl (λ k. absurd (true≢false (sym k)))));
      no_ready_late_leaves = λ h. true≢false (sym (h.leaves 255 A (sends 7) falls starts));
      no_empty_as_ready_busy = λ h. true≢false (h.busy 255 A (sends 7) [] falls starts refl zero_ten);
      no_never_sends = λ h. true≢false (h.level 255 A (sends 7) [] falls starts refl refl zero_ten);
      no_keeps_first = λ h. true≢false (h.level 255 A replaced (Pins 255 ∷ falls ∷ []) falls starts-replaced refl refl one_ten);
      no_ignores_cts = λ h. true≢false (h.level 255 A cleared [] falls_clear starts-cleared refl refl zero_ten);
    }
  where
    starts : Starts 255 A (sends 7) falls
    starts = record { pulse = refl; mode = refl; startable = record { idle = refl; enabled = refl; full = refl; clear = refl } }

    starts-replaced : Starts 255 A replaced falls
    starts-replaced = record { pulse = refl; mode = refl; startable = record { idle = refl; enabled = refl; full = refl; clear = refl } }

    starts-cleared : Starts 255 A cleared falls_clear
    starts-cleared = record { pulse = refl; mode = refl; startable = record { idle = refl; enabled = refl; full = refl; clear = refl } }
