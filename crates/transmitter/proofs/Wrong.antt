-- The statements shut wrong transmitters out. Each takes inputs as `after_input` does but for one fault, and each is refuted by computing
-- what becomes of a short frame, a pair of them or a break: `Sends` is false of eleven, `GoesBackToBack` of two, `KeepsRanges` of
-- one. Assumes nothing.
use Prim.Native.Nat.{ℕ, suc}
use mathlib.Core.Path.{◌≡◌, refl, sym, ap}
use mathlib.Core.Bool.{Bool, true, false, not, ◌&&◌, true≢false}
use mathlib.Core.List.{List, [], ◌∷◌}
use native.Mathlib.Omega.{arith}
use lib.Dec.{eqb, leb}
use lib.ListN.{get_or, replicate}
use Rattle.format.specs.Digits.{bits_of}
use Rattle.format.specs.Format.{format_of, stop_code_of}
use Rattle.format.specs.Parity.{parity_bits}
use Rattle.format.specs.Pick.{pick}
use Rattle.format.specs.Stop.{stop_bits_of}
use Rattle.frame.specs.Levels.{before_stop, bits_before_stop_of, spread, levels, frame, frame_length_of}
use Rattle.transmitter_state.specs.declared.sending.Standing.{Standing}
use Rattle.transmitter_state.specs.declared.state.Shifter.{Shifter}
use Rattle.transmitter_state.specs.declared.state.Transmitter.{Transmitter}
use Rattle.transmitter_state.specs.State.{empty_shifter, fresh_transmitter, with_enabled, with_holding, with_phase, with_shifter, with_asked}
use Rattle.transmitter_state.specs.Sending.{can_start, taken_of, started_of, break_begun, idle_of, begun_of, one_more, sent_on_of, pulsed_of}
use Rattle.transmitter.specs.declared.transmitter.Input.{Input}
use Rattle.transmitter.specs.declared.transmitter.Input.TheVariants.{Nothing, Pulse, Write, Enable, Disable, StartBreak, StopBreak, Reset, ChipReset, ModeChange}
use Rattle.transmitter.specs.Commands.{written_of, enabled_of, break_ended, disabled_of, reset_of, break_asked, sending_dropped}
use Rattle.transmitter.specs.Frames.{Step, after, pulses_in, line, free, Startable, Sends, GoesBackToBack}
use Rattle.transmitter.specs.Sound.{KeepsRanges}
use Rattle.transmitter.proofs.Computing.{computing}

-- ---- one fault ----

-- other ways to take a pulse, a write, a disable, a stop break, a reset and a change of mode
pub record Ways : Type 0 where
  pub pulse : Transmitter → Standing → Transmitter
  pub write : Transmitter → ℕ → Transmitter
  pub disable : Transmitter → Transmitter
  pub stop : Transmitter → Transmitter
  pub reset : Transmitter → Transmitter
  pub change : Transmitter → Transmitter

-- `after_input` with those
abbrev pub taking : Ways → Step
taking w t Nothing = t
taking w t (Pulse s) = w.pulse t s
taking w t (Write byte) = w.write t byte
taking w t Enable = enabled_of t
taking w t Disable = w.disable t
taking w t StartBreak = break_asked t
taking w t StopBreak = w.stop t
taking w t Reset = w.reset t
taking w t ChipReset = fresh_transmitter
taking w t ModeChange = w.change t

abbrev pub pulsing : (Transmitter → Standing → Transmitter) → Step
pulsing f = taking (record { pulse = f; write = written_of; disable = disabled_of; stop = break_ended; reset = reset_of; change = sending_dropped })

abbrev pub writing : (Transmitter → ℕ → Transmitter) → Step
writing f = taking (record { pulse = pulsed_of; write = f; disable = disabled_of; stop = break_ended; reset = reset_of; change = sending_dropped })

abbrev pub disabling : (Transmitter → Transmitter) → Step
disabling f = taking (record { pulse = pulsed_of; write = written_of; disable = f; stop = break_ended; reset = reset_of; change = sending_dropped })

abbrev pub stopping : (Transmitter → Transmitter) → Step
stopping f = taking (record { pulse = pulsed_of; write = written_of; disable = disabled_of; stop = f; reset = reset_of; change = sending_dropped })

abbrev pub resetting : (Transmitter → Transmitter) → Step
resetting f = taking (record { pulse = pulsed_of; write = written_of; disable = disabled_of; stop = break_ended; reset = f; change = sending_dropped })

abbrev pub changing : (Transmitter → Transmitter) → Step
changing f =
    taking (record { pulse = pulsed_of; write = written_of; disable = disabled_of; stop = break_ended; reset = reset_of; change = f })

-- MR1 16 and MR2 7 at 1X: a frame of seven pulses, 5 data bits, no parity, one stop bit
abbrev pub once : Standing
once = record { mr1 = 16; mr2 = 7; sixteen = false; cts = false }

abbrev pub enabled : Transmitter
enabled = with_enabled fresh_transmitter true

-- a character that can start
abbrev pub ready : ℕ → Transmitter
ready byte = with_holding enabled true byte

abbrev pub pulses : ℕ → List Input
pulses n = replicate n (Pulse once)

pub startable : (byte : ℕ) → Startable (ready byte) once
unfolding pick
startable byte = record { idle = refl; enabled = refl; full = refl; clear = refl }

-- ---- the next character on the frame's last pulse ----

unfoldable pub starts_early : Step
starts_early =
    pulsing
    (λ t s.
    let last : Bool = eqb t.phase 1 && eqb (suc t.shifter.sent.0) t.shifter.length.0 in
    pick (last && can_start t s) (started_of t s) (pulsed_of t s))

pub no_starts_early : Sends starts_early → ⊥
unfolding computing starts_early
no_starts_early h =
    let z : false ≡ true = h.level (ready 0) once (Write 0 ∷ pulses 6) (startable 0) refl (omega arith) in
    true≢false (sym z)

-- ---- the format on every pulse ----

unfoldable pub reads_format : Step
reads_format =
    pulsing
    (λ t s.
    pulsed_of
    (with_shifter t
    (record {
      frame = t.shifter.frame;
      sixteen = s.sixteen;
      length = frame_length_of s.sixteen (format_of s.mr1) (stop_code_of s.mr2);
      sent = t.shifter.sent;
    }))
    s)

-- the clock goes to 16X after the start
pub no_reads_format : Sends reads_format → ⊥
unfolding computing reads_format
no_reads_format h =
    let z : false ≡ true =
    h.level (ready 1) once (Pulse (record { mr1 = 16; mr2 = 7; sixteen = true; cts = false }) ∷ []) (startable 1) refl (omega arith) in
    true≢false (sym z)

-- ---- the shifter dropped by a disable ----

-- "Disable lets the shifter finish"
unfoldable pub disable_drops : Step
disable_drops = disabling (λ t. pick (eqb t.phase 1) (idle_of (with_shifter (disabled_of t) empty_shifter)) (disabled_of t))

pub no_disable_drops : Sends disable_drops → ⊥
unfolding disable_drops after pulses_in pulsed_of begun_of pick frame levels spread before_stop
no_disable_drops h = true≢false (h.level (ready 0) once (Disable ∷ []) (startable 0) refl (omega arith))

-- ---- TxD raised by a stop break in a frame ----

unfoldable pub stop_raises : Step
stop_raises = stopping (λ t. with_phase (break_ended t) (break_ended t).phase true)

pub no_stop_raises : Sends stop_raises → ⊥
unfolding stop_raises after pulses_in pick frame levels spread before_stop
no_stop_raises h = true≢false (h.level (ready 0) once (StopBreak ∷ []) (startable 0) refl (omega arith))

-- ---- a transmitter that does nothing ----

abbrev idles : Step
idles t x = t

pub no_idles : Sends idles → ⊥
unfolding after pulses_in pick frame levels spread before_stop
no_idles h = true≢false (h.level (ready 0) once [] (startable 0) refl (omega arith))

-- ---- a break before a character that can start ----

-- "A break begins on a pulse, when idle and no character can start"
unfoldable pub breaks_first : Step
breaks_first = pulsing (λ t s. pick (free t && t.asked) (break_begun t) (pulsed_of t s))

pub no_breaks_first : Sends breaks_first → ⊥
unfolding breaks_first after pulses_in pulsed_of pick frame levels spread before_stop bits_of format_of
no_breaks_first h =
    let z : false ≡ true =
    h.level (with_asked (ready 1) true) once (pulses 1) (record { idle = refl; enabled = refl; full = refl; clear = refl }) refl (omega arith) in
    true≢false (sym z)

-- ---- a shifter that empties with the frame's last pulse ----

unfoldable pub empties_early : Step
empties_early =
    pulsing
    (λ t s.
    let n : Transmitter = pulsed_of t s in
    pick (eqb n.phase 1 && leb n.shifter.length.0 n.shifter.sent.0) (with_phase n 0 n.txd) n)

pub no_empties_early : Sends empties_early → ⊥
unfolding empties_early after pulses_in pulsed_of sent_on_of begun_of taken_of pick frame levels spread before_stop bits_of parity_bits format_of frame_length_of bits_before_stop_of stop_bits_of
no_empties_early h = true≢false (h.holds (ready 0) once (pulses 6) (startable 0) refl (omega arith))

-- ---- a pause after a frame, and a write that is lost ----

-- never a start from a frame that is just over
unfoldable pub pauses : Step
pauses = pulsing (λ t s. pick (eqb t.phase 1 && leb t.shifter.length.0 t.shifter.sent.0) (idle_of t) (pulsed_of t s))

pub no_pauses : GoesBackToBack pauses → ⊥
unfolding pauses line pulsed_of sent_on_of begun_of taken_of written_of pick frame levels spread before_stop bits_of parity_bits format_of frame_length_of bits_before_stop_of stop_bits_of
no_pauses h = true≢false (ap (λ (l : List Bool). get_or l 7 true) (h enabled once 0 ((0, 0) ∷ []) refl refl refl refl))

-- a write while the shifter holds a character is lost
unfoldable pub loses_writes : Step
loses_writes = writing (λ t byte. pick (eqb t.phase 1) t (written_of t byte))

pub no_loses_writes : GoesBackToBack loses_writes → ⊥
unfolding loses_writes line pulsed_of sent_on_of begun_of taken_of written_of pick frame levels spread before_stop bits_of parity_bits format_of frame_length_of bits_before_stop_of stop_bits_of
no_loses_writes h = true≢false (ap (λ (l : List Bool). get_or l 7 true) (h enabled once 0 ((0, 0) ∷ []) refl refl refl refl))

-- ---- a count that runs on ----

-- while no character is sent the pulses are still counted
unfoldable pub counts_on : Step
counts_on =
    pulsing
    (λ t s.
    let n : Transmitter = pulsed_of t s in
    pick (eqb n.phase 1) n (with_shifter n (one_more n.shifter)))

pub no_counts_on : KeepsRanges counts_on → ⊥
unfolding counts_on pulsed_of begun_of pick
no_counts_on h =
    let long : Shifter = record { frame = record { 0 = 0 }; sixteen = true; length = record { 0 = 192 }; sent = record { 0 = 192 } } in
    true≢false (sym (h (with_shifter fresh_transmitter long) (Pulse once) refl))

-- ---- a start that CTS forbids ----

unfoldable pub ignores_cts : Step
ignores_cts = pulsing (λ t s. pulsed_of t (record { mr1 = s.mr1; mr2 = s.mr2; sixteen = s.sixteen; cts = false }))

-- CTS is chosen, and high
abbrev stopped : Standing
stopped = record { mr1 = 16; mr2 = 23; sixteen = false; cts = true }

pub no_ignores_cts : Sends ignores_cts → ⊥
unfolding ignores_cts pulsed_of begun_of taken_of pick
no_ignores_cts h = true≢false (sym (ap (λ (t : Transmitter). t.txd) (h.rests (ready 0) stopped refl refl refl)))

-- ---- one pulse with nothing to send, and then no more ----

-- dead from there on, with TxD high
unfoldable pub dies : Step
dies = pulsing (λ t s. pick (free t && (not (can_start t s) && not t.asked)) (with_phase t 2 true) (pulsed_of t s))

pub no_dies : Sends dies → ⊥
unfolding dies pick
no_dies h =
    let z : ◌≡◌ {A = ℕ} 2 0 = ap (λ (t : Transmitter). t.phase) (h.rests enabled once refl refl refl) in
    omega arith

-- ---- a break asked in a frame, and forgotten ----

unfoldable pub forgets_break : Step
forgets_break = pulsing (λ t s. pick (eqb t.phase 1) (with_asked (pulsed_of t s) false) (pulsed_of t s))

pub no_forgets_break : Sends forgets_break → ⊥
unfolding forgets_break after pulses_in pulsed_of sent_on_of begun_of taken_of pick frame levels spread before_stop bits_of parity_bits format_of stop_bits_of
no_forgets_break h =
    true≢false
    (sym (h.inside (with_asked (ready 0) true) once [] once (record { idle = refl; enabled = refl; full = refl; clear = refl }) refl (omega arith)).asked)

-- ---- a character that stays in the holding place, and goes out again ----

unfoldable pub keeps_holding : Step
keeps_holding = pulsing (λ t s. with_holding (pulsed_of t s) t.full t.holding)

pub no_keeps_holding : Sends keeps_holding → ⊥
unfolding keeps_holding
no_keeps_holding h = true≢false (h.leaves (ready 0) once (startable 0)).full
