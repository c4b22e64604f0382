-- What an event brings to a channel's transmitter is what the front makes of it: so the transmitter run alone over the inputs that some events bring is
-- the front's; and its levels at its pulses, and their number, are those of its inputs. Assumes nothing.
use Prim.Native.Nat.{ℕ, ◌/◌, ◌%◌}
use mathlib.Core.Path.{◌≡◌, refl, sym, ap, ◌∙◌}
use mathlib.Core.Bool.{Bool, true, false, not, ◌&&◌, true≢false, and-true, and-eq-true_iff}
use mathlib.Core.List.{List, [], ◌∷◌, ◌++◌, append_assoc, append-nil}
use lib.Dec.{eqb}
use lib.ListN.{length}
use borrow.Author.Tests.{eqb-true}
use Rattle.format.specs.Digits.{bit}
use Rattle.format.specs.Format.{mr2_not_modelled}
use Rattle.format.specs.Pick.{pick}
use Rattle.format.proofs.Laws.Pick.{pick_all, pick_known}
use Rattle.transmitter_state.specs.declared.sending.Standing.{Standing}
use Rattle.transmitter_state.specs.declared.state.Transmitter.{Transmitter}
use Rattle.transmitter_state.specs.State.{fresh_transmitter}
use Rattle.transmitter.specs.declared.transmitter.Input.{Input}
use Rattle.transmitter.specs.declared.transmitter.Input.TheVariants as Inputs
use Rattle.transmitter.specs.Transmitter.{after_input}
use Rattle.transmitter.specs.Frames.{after, pulses_in, line, no_reset}
use Rattle.clocks.specs.Pulses.Side.{transmits}
use Rattle.inputs.specs.Inputs.{moved_of, pins_of_a, pins_of_b}
use Rattle.front_side.specs.declared.side.Side.{Side}
use Rattle.front_side.specs.Side.{fresh_side, mode_not_modelled, mode_written, csr_written, set_changed, buffer_written}
use Rattle.front_modes.specs.Modes.{changes_mode, mode_set}
use Rattle.front_side_clocks.specs.Clocking.{transmitter_pulsed}
use Rattle.front_commands.specs.Commands.{transmitter_effect, transmitter_enabling, side_commanded}
use Rattle.events.specs.Command.{command_forbidden}
use Rattle.front.specs.declared.front.Front.{Front}
use Rattle.front.specs.Front.{front_at}
use Rattle.events.specs.declared.events.Event.{Event}
use Rattle.events.specs.declared.events.Event.TheVariants.{ChipReset, Read, Write, Acknowledge, Pins, Tick}
use Rattle.demands.specs.Chip.{Channel, register_of, and_then, over}
use Rattle.demands.specs.Chip.Channel.{A, B}
use Rattle.demands.specs.Told.{levels_then, commands, programmed, mode_bits, in_echo, mode_changes}
use Rattle.demands.specs.Clocks.{front_then, front_after, side_of, clocks_of, pulsed_by, pulsed_after}
use Rattle.demands.specs.Sending.{standing, effect_inputs, enabling_inputs, inputs_at, inputs_from, sender_after, keeps_sending, keeps_from, pulses_from}
use Rattle.demands.proofs.Laws.Fronts.{side_written, side_next, side_next_lem}
use Rattle.demands.proofs.Laws.Told.{told, levels_told, over_then, pick_with, programmed_of}
use Rattle.demands.proofs.Laws.Modes.{echo_told, changes_told, mode_stays}
use Rattle.demands.proofs.Laws.Frames.{after_append, pulses_append, line_append, keeps_append, line_length}

-- ---- a write ----

-- bits 6-4 and 3-2 of a command, one input each or none
effect_taken : (t : Transmitter) (bits : ℕ) → after after_input t (effect_inputs bits) ≡ after_input t (transmitter_effect bits)
unfolding after after_input transmitter_effect pick
effect_taken t bits = go (eqb bits 3) (eqb bits 6) (eqb bits 7)
  where
    go : (b c d : Bool)
        → after after_input t (pick b (Inputs.Reset ∷ []) (pick c (Inputs.StartBreak ∷ []) (pick d (Inputs.StopBreak ∷ []) [])))
        ≡ after_input t (pick b Inputs.Reset (pick c Inputs.StartBreak (pick d Inputs.StopBreak Inputs.Nothing)))
    go true c d = refl
    go false true d = refl
    go false false true = refl
    go false false false = refl

enabling_taken : (t : Transmitter) (bits : ℕ) → after after_input t (enabling_inputs bits) ≡ after_input t (transmitter_enabling bits)
unfolding after after_input transmitter_enabling pick
enabling_taken t bits = go (eqb bits 1) (eqb bits 2)
  where
    go : (b c : Bool)
        → after after_input t (pick b (Inputs.Enable ∷ []) (pick c (Inputs.Disable ∷ []) []))
        ≡ after_input t (pick b Inputs.Enable (pick c Inputs.Disable Inputs.Nothing))
    go true c = refl
    go false true = refl
    go false false = refl

command_taken : (s : Side) (byte : ℕ)
    → (pick (command_forbidden byte) s (side_commanded s byte)).transmitter
    ≡ after after_input s.transmitter (pick (not (command_forbidden byte)) (effect_inputs (byte / 16 % 8) ++ enabling_inputs (byte / 4 % 4)) [])
unfolding after side_commanded pick
command_taken s byte = go (command_forbidden byte)
  where
    go : (b : Bool)
        → (pick b s (side_commanded s byte)).transmitter
        ≡ after after_input s.transmitter (pick (not b) (effect_inputs (byte / 16 % 8) ++ enabling_inputs (byte / 4 % 4)) [])
    go true = refl
    go false =
        sym (after_append s.transmitter (effect_inputs (byte / 16 % 8)) (enabling_inputs (byte / 4 % 4))
        ∙ rw (effect_taken s.transmitter (byte / 16 % 8)) (enabling_taken _ (byte / 4 % 4)))

-- a write of the mode registers is nothing to it, but for a mode change
set_taken : (s : Side) (byte : ℕ) → (mode_set s byte).transmitter ≡ pick (changes_mode s byte) (after_input s.transmitter Inputs.ModeChange) s.transmitter
unfolding mode_set mode_written
set_taken s byte =
    pick_with (λ (x : Side). x.transmitter) (changes_mode s byte) refl
    (pick_all (λ (x : Side). x.transmitter ≡ s.transmitter) s.moved _ _ refl refl)

mode_taken : (s : Side) (byte : ℕ)
    → (pick (mode_not_modelled s byte) s (mode_set s byte)).transmitter
    ≡ after after_input s.transmitter
    (pick (s.moved && (not (mr2_not_modelled byte) && not (eqb (byte / 64 % 4) (mode_bits (programmed_of s))))) (Inputs.ModeChange ∷ []) [])
unfolding after
mode_taken s byte =
    pick_with (λ (x : Side). x.transmitter) (mode_not_modelled s byte) refl (set_taken s byte)
    ∙ changes_told s byte (after_input s.transmitter Inputs.ModeChange) s.transmitter
    ∙ sym (pick_with (after after_input s.transmitter) _ refl refl)

written_next : (levels : ℕ) (ch : Channel) (es : List Event) (f : Front) (n byte : ℕ) → programmed ch es ≡ programmed_of (side_of ch f)
    → (side_written ch f n byte).transmitter ≡ after after_input (side_of ch f).transmitter (inputs_at levels ch es (Write n byte))
unfolding inputs_at after csr_written buffer_written set_changed pick
written_next levels ch es f n byte p = buffer (eqb n (register_of ch 3)) refl
  where
    Taken : Channel → ℕ → Type 0
    Taken ch n = (side_written ch f n byte).transmitter ≡ after after_input (side_of ch f).transmitter (inputs_at levels ch es (Write n byte))

    Same : Side → Type 0
    Same s = s.transmitter ≡ (side_of ch f).transmitter

    at-buffer : (ch : Channel) → Taken ch (register_of ch 3)
    at-buffer A = refl
    at-buffer B = refl

    at-command : (ch : Channel) → Taken ch (register_of ch 2)
    at-command A = command_taken f.a byte
    at-command B = command_taken f.b byte

    mode : (ch : Channel) → programmed ch es ≡ programmed_of (side_of ch f) → Taken ch (register_of ch 0)
    mode A p = mode_taken f.a byte ∙ rw p
    mode B p = mode_taken f.b byte ∙ rw p

    other : (b : Bool) → eqb n (register_of ch 0) ≡ b → eqb n (register_of ch 2) ≡ false → eqb n (register_of ch 3) ≡ false → Taken ch n
    other true e g h = rw (eqb-true n (register_of ch 0) e) (mode ch p)
    other false e g h =
        rw (e, g, h) (pick_all Same (eqb n (register_of ch 1)) _ _ refl (pick_all Same (eqb n 4) _ _ refl refl))

    command : (b : Bool) → eqb n (register_of ch 2) ≡ b → eqb n (register_of ch 3) ≡ false → Taken ch n
    command true e h = rw (eqb-true n (register_of ch 2) e) (at-command ch)
    command false e h = other (eqb n (register_of ch 0)) refl e h

    buffer : (b : Bool) → eqb n (register_of ch 3) ≡ b → Taken ch n
    buffer true e = rw (eqb-true n (register_of ch 3) e) (at-buffer ch)
    buffer false e = command (eqb n (register_of ch 2)) refl e

-- ---- any event ----

-- two choices by one test
picks : {A B C : Type 0} (g : A → C) (h : B → C) (t : Bool) {x y : A} {x' y' : B} → g x ≡ h x' → g y ≡ h y' → g (pick t x y) ≡ h (pick t x' y')
unfolding pick
picks g h true p q = p
picks g h false p q = q

sender_next : (levels : ℕ) (ch : Channel) (es : List Event) (e : Event)
    → (side_of ch (front_after levels (and_then es e))).transmitter
    ≡ after after_input (side_of ch (front_after levels es)).transmitter (inputs_at levels ch es e)
unfolding inputs_at after fresh_side after_input transmitter_pulsed pulsed_by clocks_of pins_of_a pins_of_b moved_of
sender_next levels ch es e = rw (over_then front_then (front_at levels) es e, side_next_lem ch f e) (go ch e)
  where
    f : Front
    f = front_after levels es

    go : (ch : Channel) (e : Event) → (side_next ch f e).transmitter ≡ after after_input (side_of ch f).transmitter (inputs_at levels ch es e)
    go ch ChipReset = refl
    go ch (Read n) = pick_all (λ (s : Side). s.transmitter ≡ (side_of ch f).transmitter) (eqb n (register_of ch 0)) _ _ refl refl
    go ch (Write n byte) = written_next levels ch es f n byte (told ch levels es)
    go ch Acknowledge = refl
    go A (Pins x) =
        rw (told A levels es, echo_told f.a, over_then levels_then levels es (Pins x)) (picks (λ (t : Transmitter). t) (after after_input f.a.transmitter) _ refl refl)
    go B (Pins x) =
        rw (told B levels es, echo_told f.b, over_then levels_then levels es (Pins x)) (picks (λ (t : Transmitter). t) (after after_input f.b.transmitter) _ refl refl)
    go A Tick =
        rw (told A levels es, echo_told f.a, over_then levels_then levels es Tick, levels_told levels es)
        (picks (λ (t : Transmitter). t) (after after_input f.a.transmitter) _ refl refl)
    go B Tick =
        rw (told B levels es, echo_told f.b, over_then levels_then levels es Tick, levels_told levels es)
        (picks (λ (t : Transmitter). t) (after after_input f.b.transmitter) _ refl refl)

-- ---- a list of events ----

sender_from : (levels : ℕ) (ch : Channel) (before es : List Event)
    → (side_of ch (front_after levels (before ++ es))).transmitter
    ≡ after after_input (side_of ch (front_after levels before)).transmitter (inputs_from levels ch before es)
unfolding inputs_from after
sender_from levels ch before [] = rw (append-nil before)
sender_from levels ch before (e ∷ es) =
    ap (λ (xs : List Event). (side_of ch (front_after levels xs)).transmitter) (sym (append_assoc before (e ∷ []) es))
    ∙ sender_from levels ch (and_then before e) es
    ∙ rw (sender_next levels ch before e, after_append _ (inputs_at levels ch before e) _)

-- the transmitter run alone is the front's
pub sender_told : (levels : ℕ) (ch : Channel) (es : List Event) → sender_after levels ch es ≡ (side_of ch (front_after levels es)).transmitter
unfolding over front_at fresh_side
sender_told levels A es = sym (sender_from levels A [] es)
sender_told levels B es = sym (sender_from levels B [] es)

pub sender_more : (levels : ℕ) (ch : Channel) (es fs : List Event)
    → sender_after levels ch (es ++ fs) ≡ after after_input (sender_after levels ch es) (inputs_from levels ch es fs)
sender_more levels ch es fs = rw (sender_told levels ch (es ++ fs), sender_told levels ch es) (sender_from levels ch es fs)

pub sender_then : (levels : ℕ) (ch : Channel) (es : List Event) (e : Event)
    → sender_after levels ch (and_then es e) ≡ after after_input (sender_after levels ch es) (inputs_at levels ch es e)
sender_then levels ch es e = rw (sender_told levels ch (and_then es e), sender_told levels ch es) (sender_next levels ch es e)

-- ---- pulses and resets among the inputs of one event ----

-- a write brings nothing, an accepted command, a byte or a mode change
written_all : (P : List Input → Type 0) (levels : ℕ) (ch : Channel) (es : List Event) (n byte : ℕ) → P []
    → (commands ch n byte ≡ true → P (effect_inputs (byte / 16 % 8) ++ enabling_inputs (byte / 4 % 4))) → P (Inputs.Write byte ∷ [])
    → (mode_changes ch (programmed ch es) n byte ≡ true → P (Inputs.ModeChange ∷ []))
    → P (inputs_at levels ch es (Write n byte))
unfolding inputs_at
written_all P levels ch es n byte none command buffer change =
    pick_all P _ _ _ buffer (pick_known P _ _ _ command (pick_known P _ _ _ change none))

-- a command is no pulse
command_silent : (t : Transmitter) (byte : ℕ) → line after_input t (effect_inputs (byte / 16 % 8) ++ enabling_inputs (byte / 4 % 4)) ≡ []
unfolding line pick
command_silent t byte = rw (line_append t (effect_inputs (byte / 16 % 8)) _, effects t (byte / 16 % 8)) (enablings _ (byte / 4 % 4))
  where
    Silent : Transmitter → List Input → Type 0
    Silent t xs = line after_input t xs ≡ []

    effects : (t : Transmitter) (bits : ℕ) → Silent t (effect_inputs bits)
    effects t bits =
        pick_all (Silent t) (eqb bits 3) _ _ refl (pick_all (Silent t) (eqb bits 6) _ _ refl (pick_all (Silent t) (eqb bits 7) _ _ refl refl))

    enablings : (t : Transmitter) (bits : ℕ) → Silent t (enabling_inputs bits)
    enablings t bits = pick_all (Silent t) (eqb bits 1) _ _ refl (pick_all (Silent t) (eqb bits 2) _ _ refl refl)

-- and no reset, unless bits 6-4 are 3
command_keeps : (byte : ℕ) → not (eqb (byte / 16 % 8) 3) ≡ true → no_reset (effect_inputs (byte / 16 % 8) ++ enabling_inputs (byte / 4 % 4)) ≡ true
command_keeps byte h =
    keeps_append (effect_inputs (byte / 16 % 8)) _
    (pick_known Keeps (eqb (byte / 16 % 8) 3) _ _ (λ k. absurd (true≢false (sym (rw k at h))))
    (pick_all Keeps _ _ _ refl (pick_all Keeps _ _ _ refl refl)))
    (pick_all Keeps (eqb (byte / 4 % 4) 1) _ _ refl (pick_all Keeps _ _ _ refl refl))
  where
    Keeps : List Input → Type 0
    Keeps xs = no_reset xs ≡ true

pulse_line : (t : Transmitter) (s : Standing) (b : Bool)
    → line after_input t (pick b (Inputs.Pulse s ∷ []) []) ≡ pick b ((after after_input t (pick b (Inputs.Pulse s ∷ []) [])).txd ∷ []) []
unfolding line after pick
pulse_line t s true = refl
pulse_line t s false = refl

-- TxD at the event's pulse, if it brings one
pub event_line : (levels : ℕ) (ch : Channel) (es : List Event) (e : Event) (t : Transmitter)
    → line after_input t (inputs_at levels ch es e)
    ≡ pick (pulsed_after transmits ch levels es e && not (in_echo (programmed ch es))) ((after after_input t (inputs_at levels ch es e)).txd ∷ []) []
unfolding inputs_at line pulsed_by pick
event_line levels ch es ChipReset t = refl
event_line levels ch es (Read n) t = refl
event_line levels ch es (Write n byte) t =
    written_all (λ (xs : List Input). line after_input t xs ≡ []) levels ch es n byte refl (λ k. command_silent t byte) refl (λ k. refl)
event_line levels ch es Acknowledge t = refl
event_line levels ch es (Pins x) t =
    pulse_line t (standing levels ch es (Pins x)) (pulsed_after transmits ch levels es (Pins x) && not (in_echo (programmed ch es)))
event_line levels ch es Tick t =
    pulse_line t (standing levels ch es Tick) (pulsed_after transmits ch levels es Tick && not (in_echo (programmed ch es)))

event_pulses : (levels : ℕ) (ch : Channel) (es : List Event) (e : Event)
    → in_echo (programmed ch es) ≡ false → pulses_in (inputs_at levels ch es e) ≡ bit (pulsed_after transmits ch levels es e)
unfolding pick
event_pulses levels ch es e mode =
    sym (line_length fresh_transmitter (inputs_at levels ch es e))
    ∙ rw (event_line levels ch es e fresh_transmitter, mode, and-true) (go (pulsed_after transmits ch levels es e) _)
  where
    go : (b : Bool) (x : Bool) → length (pick b (x ∷ []) []) ≡ bit b
    go true x = refl
    go false x = refl

event_keeps : (levels : ℕ) (ch : Channel) (es : List Event) (e : Event) → keeps_sending ch es e ≡ true → no_reset (inputs_at levels ch es e) ≡ true
unfolding inputs_at
event_keeps levels ch es ChipReset h = absurd (true≢false (sym h))
event_keeps levels ch es (Read n) h = refl
event_keeps levels ch es (Write n byte) h =
    let both = (and-eq-true_iff (not (commands ch n byte && eqb (byte / 16 % 8) 3)) _).0 h in
    written_all (λ (xs : List Input). no_reset xs ≡ true) levels ch es n byte refl (λ k. command_keeps byte (rw k at both.0)) refl
    (λ k. absurd (true≢false (sym (rw k at both.1))))
event_keeps levels ch es Acknowledge h = refl
event_keeps levels ch es (Pins x) h = pick_all (λ (xs : List Input). no_reset xs ≡ true) _ _ _ refl refl
event_keeps levels ch es Tick h = pick_all (λ (xs : List Input). no_reset xs ≡ true) _ _ _ refl refl

-- ---- and of a list of events ----

pub keeps_from_lem : (levels : ℕ) (ch : Channel) (before es : List Event) → keeps_from ch before es ≡ true
    → no_reset (inputs_from levels ch before es) ≡ true
unfolding inputs_from keeps_from
keeps_from_lem levels ch before [] h = refl
keeps_from_lem levels ch before (e ∷ es) h =
    let both = (and-eq-true_iff (keeps_sending ch before e) _).0 h in
    keeps_append (inputs_at levels ch before e) _ (event_keeps levels ch before e both.0) (keeps_from_lem levels ch (and_then before e) es both.1)

-- in a mode that sends each pulse of the clock is one of its inputs
pub pulses_from_lem : (levels : ℕ) (ch : Channel) (before es : List Event) → in_echo (programmed ch before) ≡ false → keeps_from ch before es ≡ true
    → pulses_from levels ch before es ≡ pulses_in (inputs_from levels ch before es)
unfolding pulses_from inputs_from pulses_in keeps_from
pulses_from_lem levels ch before [] mode h = refl
pulses_from_lem levels ch before (e ∷ es) mode h =
    let both = (and-eq-true_iff (keeps_sending ch before e) _).0 h in
    let next : in_echo (programmed ch (and_then before e)) ≡ false = rw (mode_stays ch before e both.0) mode in
    rw (pulses_append (inputs_at levels ch before e) _, event_pulses levels ch before e mode, pulses_from_lem levels ch (and_then before e) es next both.1)
