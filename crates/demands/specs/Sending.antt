-- Demand 2: ".. sent levels .. follow the Motorola manuals as document 01 fixes them.": what the events bring to a
-- channel's transmitter, and what is then seen of it: TxD, TxRDY and TxEMT, in all four modes (order 2). The
-- transmitter is run alone, over its inputs; the laws of crate transmitter say what it does with them. Assumes nothing.
use Rattle.std.specs.Prelude.{ℕ, ◌+◌, ◌<◌, ◌≤◌, ◌/◌, ◌%◌, ◌≡◌, Bool, true, false, not, ◌&&◌, ◌||◌, List, [], ◌∷◌, ◌++◌}
use Rattle.std.specs.Prelude.{eqb, length, get_or, take}
use Rattle.format.specs.Digits.{bit}
use Rattle.format.specs.Pick.{pick}
use Rattle.transmitter_state.specs.declared.sending.Standing.{Standing}
use Rattle.transmitter_state.specs.declared.state.Transmitter.{Transmitter}
use Rattle.transmitter_state.specs.State.{fresh_transmitter}
use Rattle.transmitter.specs.declared.transmitter.Input.{Input}
use Rattle.transmitter.specs.declared.transmitter.Input.TheVariants as Inputs
use Rattle.transmitter.specs.Transmitter.{after_input}
use Rattle.transmitter.specs.Status.{shifter_empty}
use Rattle.transmitter.specs.Frames.{after, free, Startable, frame_at}
use Rattle.clocks.specs.Channel.{is_sixteen}
use Rattle.clocks.specs.Pulses.Side.{receives, transmits}
use Rattle.byte_bits.specs.Bytes.{has_bit}
use Rattle.chip_answers.specs.declared.answers.Lines.{Lines}
use Rattle.events.specs.declared.events.Event.{Event}
use Rattle.events.specs.declared.events.Event.TheVariants.{ChipReset, Read, Write, Acknowledge, Pins, Tick}
use Rattle.demands.specs.Chip.{Chip, Channel, of_channel, register_of, and_then, status_bit, lines_after}
use Rattle.demands.specs.Told.{Programmed, levels_after, commands, programmed, in_normal, in_local, in_echo}
use Rattle.demands.specs.Told.{mode_changes}
use Rattle.demands.specs.Clocks.{pulsed_after}
use Rattle.demands.specs.Pulses.{clocks}

-- ---- what an event brings to a channel's transmitter ----

-- what a pulse finds: the mode registers, 16X or 1X, and "CTS (if chosen; IP0 for A, IP1 for B)"
abbrev pub standing : ℕ → Channel → List Event → Event → Standing
standing levels ch es e =
    let p : Programmed = programmed ch es in
    record {
      mr1 = p.mr1;
      mr2 = p.mr2;
      sixteen = is_sixteen (p.csr % 16);
      cts = has_bit (levels_after levels (and_then es e)) (of_channel ch 0 1);
    }

-- a pulse of its clock; in the echo modes it brings nothing: order 2, "no character or break starts"
abbrev pub pulse_inputs : ℕ → Channel → List Event → Event → List Input
pulse_inputs levels ch es e =
    pick (pulsed_after transmits ch levels es e && not (in_echo (programmed ch es)))
    (Inputs.Pulse (standing levels ch es e) ∷ []) []

-- "3 reset transmitter"; "6, 7 start, stop break"
abbrev pub effect_inputs : ℕ → List Input
effect_inputs effect =
    pick (eqb effect 3) (Inputs.Reset ∷ [])
    (pick (eqb effect 6) (Inputs.StartBreak ∷ [])
    (pick (eqb effect 7) (Inputs.StopBreak ∷ []) []))

-- "01 enable, 10 disable transmitter"
abbrev pub enabling_inputs : ℕ → List Input
enabling_inputs bits = pick (eqb bits 1) (Inputs.Enable ∷ []) (pick (eqb bits 2) (Inputs.Disable ∷ []) [])

-- "bits 6-4 first, then 3-2"; order 2: "A mode change drops what is being sent"
unfoldable pub inputs_at : ℕ → Channel → List Event → Event → List Input
inputs_at levels ch es ChipReset = Inputs.ChipReset ∷ []
inputs_at levels ch es (Read n) = []
inputs_at levels ch es (Write n byte) =
    pick (eqb n (register_of ch 3)) (Inputs.Write byte ∷ [])
    (pick (commands ch n byte) (effect_inputs (byte / 16 % 8) ++ enabling_inputs (byte / 4 % 4))
    (pick (mode_changes ch (programmed ch es) n byte) (Inputs.ModeChange ∷ [])
    []))
inputs_at levels ch es Acknowledge = []
inputs_at levels ch es (Pins x) = pulse_inputs levels ch es (Pins x)
inputs_at levels ch es Tick = pulse_inputs levels ch es Tick

unfoldable pub inputs_from : ℕ → Channel → List Event → List Event → List Input
inputs_from levels ch before [] = []
inputs_from levels ch before (e ∷ es) = inputs_at levels ch before e ++ inputs_from levels ch (and_then before e) es

-- the transmitter after these events
abbrev pub sender_after : ℕ → Channel → List Event → Transmitter
sender_after levels ch es = after after_input fresh_transmitter (inputs_from levels ch [] es)

-- ---- order 2: the echoed level ----

-- "(high while disabled)": a command that resets or disables the receiver, and any to one that is off; and "3 reset
-- transmitter (.., TxD high)"
abbrev pub raises : Bool → ℕ → Bool
raises enabled byte = not enabled || (eqb (byte / 16 % 8) 2 || (eqb (byte / 16 % 8) 3 || eqb (byte % 4) 2))

-- "at each pulse of an enabled receiver TxD takes the sampled level": RxD as it stands after the event
abbrev pub echo_pulsed : ℕ → Channel → List Event → Bool → Event → Bool
echo_pulsed levels ch es x e =
    let p : Programmed = programmed ch es in
    pick (pulsed_after receives ch levels es e && p.receives && in_echo p)
    (has_bit (levels_after levels (and_then es e)) (of_channel ch 6 7)) x

-- one event; a mode change "holds TxD high until the next pulse"
unfoldable pub echo_then : ℕ → Channel → List Event → Bool → Event → Bool
echo_then levels ch es x ChipReset = true
echo_then levels ch es x (Read n) = x
echo_then levels ch es x (Write n byte) =
    x || (mode_changes ch (programmed ch es) n byte || (commands ch n byte && raises (programmed ch es).receives byte))
echo_then levels ch es x Acknowledge = x
echo_then levels ch es x (Pins l) = echo_pulsed levels ch es x (Pins l)
echo_then levels ch es x Tick = echo_pulsed levels ch es x Tick

unfoldable pub echo_from : ℕ → Channel → Bool → List Event → List Event → Bool
echo_from levels ch x before [] = x
echo_from levels ch x before (e ∷ es) = echo_from levels ch (echo_then levels ch before x e) (and_then before e) es

abbrev pub echo_after : ℕ → Channel → List Event → Bool
echo_after levels ch es = echo_from levels ch true [] es

-- what TxD shows: "TxD stays high"; the echoed level, "(high while disabled)"; the transmitter's
abbrev pub shown_level : ℕ → Channel → List Event → Bool
shown_level levels ch es =
    let p : Programmed = programmed ch es in
    pick (in_local p) true
    (pick (in_echo p) (not p.receives || echo_after levels ch es)
    (sender_after levels ch es).txd)

-- ---- what is seen of it ----

abbrev pub txd_after : Chip → ℕ → Channel → List Event → Bool
txd_after c levels ch es = let l : Lines = lines_after c levels es in of_channel ch l.txda l.txdb

pub record Transmits (c : Chip) : Type 0 where
  pub line : (levels : ℕ) (ch : Channel) (es : List Event) → txd_after c levels ch es ≡ shown_level levels ch es
  -- "TxRDY: enabled and holding place empty."; order 2: "TxRDY and TxEMT read 0"
  pub ready : (levels : ℕ) (ch : Channel) (es : List Event)
      → status_bit c levels ch es 2
      ≡ (not (in_echo (programmed ch es)) && ((programmed ch es).transmits && not (sender_after levels ch es).full))
  -- "TxEMT: enabled, holding place and shifter empty."
  pub empty : (levels : ℕ) (ch : Channel) (es : List Event)
      → status_bit c levels ch es 3 ≡ (status_bit c levels ch es 2 && shifter_empty (sender_after levels ch es))
  -- "A write while disabled is ignored; a second write replaces the first.": no later answer tells them apart
  pub ignored : (levels x : ℕ) (ch : Channel) (es fs : List Event) (e : Event) → (programmed ch es).transmits ≡ false
      → c levels (es ++ Write (register_of ch 3) x ∷ fs) e ≡ c levels (es ++ fs) e
  pub replaced : (levels x y : ℕ) (ch : Channel) (es fs : List Event) (e : Event)
      → c levels (es ++ Write (register_of ch 3) x ∷ Write (register_of ch 3) y ∷ fs) e
      ≡ c levels (es ++ Write (register_of ch 3) y ∷ fs) e

-- ---- a character that starts ----

-- "A character starts on a pulse if enabled, idle, the holding place is full and CTS .. is low": it does with this
-- event, after those
pub record Starts (levels : ℕ) (ch : Channel) (es : List Event) (e : Event) : Type 0 where
  pub pulse : pulsed_after transmits ch levels es e ≡ true
  -- order 2, of the echo modes: "no character or break starts"
  pub mode : in_echo (programmed ch es) ≡ false
  pub startable : Startable (sender_after levels ch es) (standing levels ch es e)

-- its frame: "Format and 16X or 1X are taken when a character starts"
abbrev pub started_frame : ℕ → Channel → List Event → Event → List Bool
started_frame levels ch es e = frame_at (standing levels ch es e) (sender_after levels ch es).holding

-- any event but a chip reset, a reset of the channel's transmitter and, by order 2, a mode change of the channel
abbrev pub keeps_sending : Channel → List Event → Event → Bool
keeps_sending ch es ChipReset = false
keeps_sending ch es (Read n) = true
keeps_sending ch es (Write n byte) =
    not (commands ch n byte && eqb (byte / 16 % 8) 3) && not (mode_changes ch (programmed ch es) n byte)
keeps_sending ch es Acknowledge = true
keeps_sending ch es (Pins x) = true
keeps_sending ch es Tick = true

-- and so it is of all of a list, after those that came before
unfoldable pub keeps_from : Channel → List Event → List Event → Bool
keeps_from ch before [] = true
keeps_from ch before (e ∷ es) = keeps_sending ch before e && keeps_from ch (and_then before e) es

-- how many of some events pulse the channel's transmitter, after those that came before
unfoldable pub pulses_from : ℕ → Channel → List Event → List Event → ℕ
pulses_from levels ch before [] = 0
pulses_from levels ch before (e ∷ es) =
    bit (pulsed_after transmits ch levels before e) + pulses_from levels ch (and_then before e) es

-- TxD after each of these pulses, in order
unfoldable pub sent_from : Chip → ℕ → Channel → List Event → List Event → List Bool
sent_from c levels ch before [] = []
sent_from c levels ch before (e ∷ es) =
    pick (pulsed_after transmits ch levels before e) (txd_after c levels ch (and_then before e) ∷ []) []
    ++ sent_from c levels ch (and_then before e) es

pub record Sends (c : Chip) : Type 0 where
  -- "CTS (if chosen; IP0 for A, IP1 for B) is low": else what is held stays; and one that is held by an idle, enabled
  -- transmitter starts on a pulse
  pub waits : (levels : ℕ) (ch : Channel) (es : List Event) (e : Event) → has_bit (programmed ch es).mr2 4 ≡ true
      → has_bit (levels_after levels (and_then es e)) (of_channel ch 0 1) ≡ true → clocks e ≡ true
      → status_bit c levels ch (and_then es e) 2 ≡ status_bit c levels ch es 2
  pub goes : (levels : ℕ) (ch : Channel) (es : List Event) (e : Event) → pulsed_after transmits ch levels es e ≡ true
      → in_echo (programmed ch es) ≡ false
      → free (sender_after levels ch es) ≡ true → (programmed ch es).transmits ≡ true → status_bit c levels ch es 2 ≡ false
      → (has_bit (programmed ch es).mr2 4 ≡ true
      → has_bit (levels_after levels (and_then es e)) (of_channel ch 0 1) ≡ false)
      → status_bit c levels ch (and_then es e) 2 ≡ true
  -- with its start a character leaves the holding place
  pub leaves : (levels : ℕ) (ch : Channel) (es : List Event) (e : Event) → Starts levels ch es e
      → status_bit c levels ch (and_then es e) 2 ≡ true
  -- TxD after the k-th pulse from the start is level k-1 of the frame, and stays so until the next, whatever else comes
  -- but a reset and a mode change
  pub level : (levels : ℕ) (ch : Channel) (es fs : List Event) (e : Event) → Starts levels ch es e
      → in_normal (programmed ch es) ≡ true → keeps_from ch (and_then es e) fs ≡ true
      → pulses_from levels ch (and_then es e) fs < length (started_frame levels ch es e)
      → txd_after c levels ch (and_then es e ++ fs)
      ≡ get_or (started_frame levels ch es e) (pulses_from levels ch (and_then es e) fs) true
  -- so the levels at the pulses are its frame, as far as they go
  pub line : (levels : ℕ) (ch : Channel) (es fs : List Event) (e : Event) → Starts levels ch es e
      → in_normal (programmed ch es) ≡ true → keeps_from ch (and_then es e) fs ≡ true
      → pulses_from levels ch es (e ∷ fs) ≤ length (started_frame levels ch es e)
      → sent_from c levels ch es (e ∷ fs) ≡ take (pulses_from levels ch es (e ∷ fs)) (started_frame levels ch es e)
  -- in local loopback "TxD stays high", and what is looped back, which demand 3's line is, has those levels
  pub looped : (levels : ℕ) (ch : Channel) (es fs : List Event) (e : Event) → Starts levels ch es e
      → in_local (programmed ch es) ≡ true → keeps_from ch (and_then es e) fs ≡ true
      → pulses_from levels ch (and_then es e) fs < length (started_frame levels ch es e)
      → (txd_after c levels ch (and_then es e ++ fs) ≡ true)
      × ((sender_after levels ch (and_then es e ++ fs)).txd
      ≡ get_or (started_frame levels ch es e) (pulses_from levels ch (and_then es e) fs) true)
  -- as long as it lasts TxEMT is clear
  pub busy : (levels : ℕ) (ch : Channel) (es fs : List Event) (e : Event) → Starts levels ch es e
      → keeps_from ch (and_then es e) fs ≡ true
      → pulses_from levels ch (and_then es e) fs < length (started_frame levels ch es e)
      → status_bit c levels ch (and_then es e ++ fs) 3 ≡ false
  -- the pulse after its last sets it, if no other one is held
  pub over : (levels : ℕ) (ch : Channel) (es fs : List Event) (e next : Event) → Starts levels ch es e
      → keeps_from ch (and_then es e) fs ≡ true
      → pulses_from levels ch es (e ∷ fs) ≡ length (started_frame levels ch es e)
      → pulsed_after transmits ch levels (and_then es e ++ fs) next ≡ true
      → status_bit c levels ch (and_then es e ++ fs) 2 ≡ true
      → status_bit c levels ch (and_then (and_then es e ++ fs) next) 3 ≡ true
