-- Demand 2, the sender: after its start a transmitter takes the inputs that the events bring, among them no reset and no mode change; so TxD, which the lines show, has
-- the levels of its frame one a pulse, and TxEMT waits for the pulse after the last, as is proved of one transmitter. Assumes nothing.
use Prim.Native.Nat.{ℕ, ◌<◌, ◌≤◌, ◌/◌, ◌%◌}
use mathlib.Core.Path.{◌≡◌, refl, sym, ap, ◌∙◌}
use mathlib.Core.Bool.{Bool, true, false, not, ◌&&◌, ◌||◌, true≢false, and-false, and-eq-true_iff}
use mathlib.Core.List.{List, [], ◌∷◌, ◌++◌, append_assoc}
use lib.Dec.{eqb}
use lib.ListN.{length, get_or, take}
use Rattle.format.specs.Pick.{pick}
use Rattle.format.proofs.Laws.Pick.{pick_yes, pick_no, pick_all}
use Rattle.transmitter_state.specs.declared.sending.Standing.{Standing}
use Rattle.transmitter_state.specs.declared.state.Transmitter.{Transmitter}
use Rattle.transmitter_state.specs.Sending.{clear_to_send, can_start, begun_of, sent_on_of, held_high, pulsed_of}
use Rattle.transmitter.specs.declared.transmitter.Input.{Input}
use Rattle.transmitter.specs.declared.transmitter.Input.TheVariants.{Pulse}
use Rattle.transmitter.specs.Status.{shifter_empty}
use Rattle.transmitter.specs.Transmitter.{after_input}
use Rattle.transmitter.specs.Frames.{after, line, free, pulses_in}
use Rattle.transmitter.proofs.Frames as Frames
use Rattle.clocks.specs.Pulses.Side.{transmits}
use Rattle.byte_bits.specs.Bytes.{has_bit}
use Rattle.events.specs.declared.events.Event.{Event}
use Rattle.events.specs.declared.events.Event.TheVariants.{ChipReset, Read, Write, Acknowledge, Pins, Tick}
use Rattle.chip_step.specs.Chip.{step_of}
use Rattle.demands.specs.Chip.{Channel, of_channel, chip_of, and_then, status_bit}
use Rattle.demands.specs.Told.{Programmed, levels_after, programmed, mode_bits, in_normal, in_local, in_echo}
use Rattle.demands.specs.Clocks.{pulsed_by, pulsed_after}
use Rattle.demands.specs.Pulses.{clocks}
use Rattle.demands.specs.Sending.{standing, inputs_at, inputs_from, sender_after, txd_after, Starts, started_frame, keeps_sending, keeps_from, pulses_from, sent_from, Sends}
use Rattle.demands.proofs.Laws.Told.{pulsed_enabled, programmed_stays}
use Rattle.demands.proofs.Laws.Modes.{mode_from}
use Rattle.demands.proofs.Laws.Looks.{chip}
use Rattle.demands.proofs.Laws.Frames.{line_started}
use Rattle.demands.proofs.Laws.Senders.{sender_more, sender_then, keeps_from_lem, pulses_from_lem}
use Rattle.demands.proofs.Laws.Echoes.{txd_normal, txd_local, line_from}
use Rattle.demands.proofs.Transmits.{enabled_told, ready_shown, empty_shown}

-- ---- what is seen of a transmitter ----

ready_when : (levels : ℕ) (ch : Channel) (es : List Event) → in_echo (programmed ch es) ≡ false → (sender_after levels ch es).enabled ≡ true
    → (sender_after levels ch es).full ≡ false → status_bit chip levels ch es 2 ≡ true
ready_when levels ch es mode enabled full = rw (ready_shown levels ch es, mode, ← enabled_told levels ch es, enabled, full)

-- and back
ready_then : (levels : ℕ) (ch : Channel) (es : List Event) → status_bit chip levels ch es 2 ≡ true
    → ((sender_after levels ch es).enabled ≡ true) × ((sender_after levels ch es).full ≡ false)
ready_then levels ch es h =
    let sending = (and-eq-true_iff (not (in_echo (programmed ch es))) _).0 (sym (ready_shown levels ch es) ∙ h) in
    let both = (and-eq-true_iff (programmed ch es).transmits _).0 sending.1 in
    (enabled_told levels ch es ∙ both.0, not_true _ both.1)
  where
    not_true : (b : Bool) → not b ≡ true → b ≡ false
    not_true true e = absurd (true≢false (sym e))
    not_true false e = refl

-- MR2 bit 4
chosen_bit : (mr2 : ℕ) → has_bit mr2 4 ≡ eqb (mr2 / 16 % 2) 1
unfolding has_bit pick
chosen_bit mr2 = refl

-- ---- a pulse ----

-- an event that pulses it brings the pulse, and no more
pulse_brought : (levels : ℕ) (ch : Channel) (es : List Event) (e : Event) → pulsed_after transmits ch levels es e ≡ true
    → in_echo (programmed ch es) ≡ false → inputs_at levels ch es e ≡ Pulse (standing levels ch es e) ∷ []
unfolding inputs_at pulsed_by
pulse_brought levels ch es ChipReset h m = absurd (true≢false (sym h))
pulse_brought levels ch es (Read n) h m = absurd (true≢false (sym h))
pulse_brought levels ch es (Write n byte) h m = absurd (true≢false (sym h))
pulse_brought levels ch es Acknowledge h m = absurd (true≢false (sym h))
pulse_brought levels ch es (Pins x) h m = pick_yes _ _ _ (rw m ((and-eq-true_iff _ true).1 (h, refl)))
pulse_brought levels ch es Tick h m = pick_yes _ _ _ (rw m ((and-eq-true_iff _ true).1 (h, refl)))

sender_pulsed : (levels : ℕ) (ch : Channel) (es : List Event) (e : Event) → pulsed_after transmits ch levels es e ≡ true
    → in_echo (programmed ch es) ≡ false
    → sender_after levels ch (and_then es e) ≡ after_input (sender_after levels ch es) (Pulse (standing levels ch es e))
unfolding after
sender_pulsed levels ch es e h m = sender_then levels ch es e ∙ ap (after after_input (sender_after levels ch es)) (pulse_brought levels ch es e h m)

-- an event that pulses it is a tick or a pin event, so the mode stays
pulse_mode : (levels : ℕ) (ch : Channel) (es : List Event) (e : Event) → pulsed_after transmits ch levels es e ≡ true
    → programmed ch (and_then es e) ≡ programmed ch es
unfolding pulsed_by
pulse_mode levels ch es ChipReset h = absurd (true≢false (sym h))
pulse_mode levels ch es (Read n) h = absurd (true≢false (sym h))
pulse_mode levels ch es (Write n byte) h = absurd (true≢false (sym h))
pulse_mode levels ch es Acknowledge h = absurd (true≢false (sym h))
pulse_mode levels ch es (Pins x) h = programmed_stays ch es (Pins x) refl
pulse_mode levels ch es Tick h = programmed_stays ch es Tick refl

-- the mode after it, of one that sends
mode_next : (levels : ℕ) (ch : Channel) (es : List Event) (e : Event) → pulsed_after transmits ch levels es e ≡ true
    → in_echo (programmed ch es) ≡ false → in_echo (programmed ch (and_then es e)) ≡ false
mode_next levels ch es e h m = rw (pulse_mode levels ch es e h) m

-- where none can start it leaves the holding place
pulsed_held : (t : Transmitter) (s : Standing) → can_start t s ≡ false → (pulsed_of t s).full ≡ t.full
unfolding pulsed_of sent_on_of held_high begun_of
pulsed_held t s h =
    pick_all Same _ _ _ (pick_all Same _ _ _ refl begun)
    (pick_all Same _ _ _ refl (pick_all Same _ _ _ (pick_all Same _ _ _ (pick_all Same _ _ _ refl refl) refl) begun))
  where
    Same : Transmitter → Type 0
    Same x = x.full ≡ t.full

    begun : Same (begun_of t s)
    begun = rw (pick_no (can_start t s) _ _ h) (pick_all Same _ _ _ refl refl)

pulse_ready : (levels : ℕ) (ch : Channel) (es : List Event) (e : Event) → pulsed_after transmits ch levels es e ≡ true
    → status_bit chip levels ch es 2 ≡ true → in_echo (programmed ch es) ≡ false → status_bit chip levels ch (and_then es e) 2 ≡ true
unfolding after_input
pulse_ready levels ch es e h k m =
    let both = ready_then levels ch es k in
    let u : sender_after levels ch (and_then es e) ≡ after_input (sender_after levels ch es) (Pulse (standing levels ch es e)) =
    sender_pulsed levels ch es e h m in
    ready_when levels ch (and_then es e) (mode_next levels ch es e h m) (rw u (pulsed_enabled (sender_after levels ch es) _ ∙ both.0))
    (rw u (pulsed_held (sender_after levels ch es) _ (rw (both.1, and-false)) ∙ both.1))

-- ---- CTS ----

-- chosen, and high: none can start
held_back : (levels : ℕ) (ch : Channel) (es : List Event) (e : Event) (t : Transmitter) → has_bit (programmed ch es).mr2 4 ≡ true
    → has_bit (levels_after levels (and_then es e)) (of_channel ch 0 1) ≡ true → can_start t (standing levels ch es e) ≡ false
held_back levels ch es e t chosen high =
    let shut : clear_to_send (standing levels ch es e) ≡ false = rw (high, ← chosen_bit (programmed ch es).mr2, chosen) in
    rw (shut, and-false)

holding_stays : (levels : ℕ) (ch : Channel) (es : List Event) (e : Event) → clocks e ≡ true
    → ((t : Transmitter) → can_start t (standing levels ch es e) ≡ false)
    → (sender_after levels ch (and_then es e)).full ≡ (sender_after levels ch es).full
unfolding inputs_at after after_input
holding_stays levels ch es e k none = rw (sender_then levels ch es e) (go e k none)
  where
    t : Transmitter
    t = sender_after levels ch es

    go : (e : Event) → clocks e ≡ true → ((t : Transmitter) → can_start t (standing levels ch es e) ≡ false)
        → (after after_input t (inputs_at levels ch es e)).full ≡ t.full
    go ChipReset k none = absurd (true≢false (sym k))
    go (Read n) k none = absurd (true≢false (sym k))
    go (Write n byte) k none = absurd (true≢false (sym k))
    go Acknowledge k none = absurd (true≢false (sym k))
    go (Pins x) k none =
        pick_all (λ (xs : List Input). (after after_input t xs).full ≡ t.full) _ _ _
        (pulsed_held t _ (none t)) refl
    go Tick k none =
        pick_all (λ (xs : List Input). (after after_input t xs).full ≡ t.full) _ _ _
        (pulsed_held t _ (none t)) refl

waits : (levels : ℕ) (ch : Channel) (es : List Event) (e : Event) → has_bit (programmed ch es).mr2 4 ≡ true
    → has_bit (levels_after levels (and_then es e)) (of_channel ch 0 1) ≡ true → clocks e ≡ true
    → status_bit chip levels ch (and_then es e) 2 ≡ status_bit chip levels ch es 2
waits levels ch es e chosen high k =
    ready_shown levels ch (and_then es e)
    ∙ rw (
      ready_shown levels ch es,
      programmed_stays ch es e k,
      holding_stays levels ch es e k (λ t. held_back levels ch es e t chosen high),
    )

-- ---- the start, and on ----

leaves : (levels : ℕ) (ch : Channel) (es : List Event) (e : Event) → Starts levels ch es e → status_bit chip levels ch (and_then es e) 2 ≡ true
leaves levels ch es e h =
    let t : Transmitter = sender_after levels ch es in
    let left = (Frames.sends).leaves t (standing levels ch es e) h.startable in
    let u : sender_after levels ch (and_then es e) ≡ after_input t (Pulse (standing levels ch es e)) = sender_pulsed levels ch es e h.pulse h.mode in
    ready_when levels ch (and_then es e) (mode_next levels ch es e h.pulse h.mode) (rw u (left.enabled ∙ h.startable.enabled)) (rw u left.full)

goes : (levels : ℕ) (ch : Channel) (es : List Event) (e : Event) → pulsed_after transmits ch levels es e ≡ true
    → in_echo (programmed ch es) ≡ false → free (sender_after levels ch es) ≡ true → (programmed ch es).transmits ≡ true → status_bit chip levels ch es 2 ≡ false
    → (has_bit (programmed ch es).mr2 4 ≡ true → has_bit (levels_after levels (and_then es e)) (of_channel ch 0 1) ≡ false)
    → status_bit chip levels ch (and_then es e) 2 ≡ true
goes levels ch es e p mode idle on ready low =
    leaves levels ch es e
    (record { pulse = p; mode = mode; startable = record { idle = idle; enabled = enabled_told levels ch es ∙ on; full = full; clear = clear } })
  where
    held : (b : Bool) → (true && not b) ≡ false → b ≡ true
    held true h = refl
    held false h = absurd (true≢false h)

    full : (sender_after levels ch es).full ≡ true
    full = held _ (rw (ready_shown levels ch es, mode, on) at ready)

    by : (b c : Bool) → (b ≡ true → c ≡ false) → (not b || not c) ≡ true
    by true c h = rw (h refl)
    by false c h = refl

    clear : clear_to_send (standing levels ch es e) ≡ true
    clear = rw (← chosen_bit (programmed ch es).mr2) (by _ _ low)

-- the inputs after its pulse
abbrev rest_of : ℕ → Channel → List Event → Event → List Event → List Input
rest_of levels ch es e fs = inputs_from levels ch (and_then es e) fs

inputs_started : (levels : ℕ) (ch : Channel) (es fs : List Event) (e : Event) → pulsed_after transmits ch levels es e ≡ true
    → in_echo (programmed ch es) ≡ false → inputs_from levels ch es (e ∷ fs) ≡ Pulse (standing levels ch es e) ∷ rest_of levels ch es e fs
unfolding inputs_from
inputs_started levels ch es fs e h m = rw (pulse_brought levels ch es e h m)

sender_started : (levels : ℕ) (ch : Channel) (es fs : List Event) (e : Event) → pulsed_after transmits ch levels es e ≡ true
    → in_echo (programmed ch es) ≡ false → sender_after levels ch (and_then es e ++ fs)
    ≡ after after_input (sender_after levels ch es) (Pulse (standing levels ch es e) ∷ rest_of levels ch es e fs)
sender_started levels ch es fs e h m =
    ap (sender_after levels ch) (append_assoc es (e ∷ []) fs)
    ∙ sender_more levels ch es (e ∷ fs) ∙ ap (after after_input (sender_after levels ch es)) (inputs_started levels ch es fs e h m)

-- after its pulse, and with it: so many pulses of the clock are so many inputs
rest_pulses : (levels : ℕ) (ch : Channel) (es fs : List Event) (e : Event) → Starts levels ch es e → keeps_from ch (and_then es e) fs ≡ true
    → pulses_from levels ch (and_then es e) fs ≡ pulses_in (rest_of levels ch es e fs)
rest_pulses levels ch es fs e h k = pulses_from_lem levels ch (and_then es e) fs (mode_next levels ch es e h.pulse h.mode) k

-- an event that pulses it keeps what is sent
pulse_keeps : (levels : ℕ) (ch : Channel) (es : List Event) (e : Event) → pulsed_after transmits ch levels es e ≡ true → keeps_sending ch es e ≡ true
unfolding pulsed_by
pulse_keeps levels ch es ChipReset h = absurd (true≢false (sym h))
pulse_keeps levels ch es (Read n) h = refl
pulse_keeps levels ch es (Write n byte) h = absurd (true≢false (sym h))
pulse_keeps levels ch es Acknowledge h = refl
pulse_keeps levels ch es (Pins x) h = refl
pulse_keeps levels ch es Tick h = refl

keeps_all : (levels : ℕ) (ch : Channel) (es fs : List Event) (e : Event) → Starts levels ch es e → keeps_from ch (and_then es e) fs ≡ true
    → keeps_from ch es (e ∷ fs) ≡ true
unfolding keeps_from
keeps_all levels ch es fs e h k = (and-eq-true_iff (keeps_sending ch es e) _).1 (pulse_keeps levels ch es e h.pulse, k)

pulses_started : (levels : ℕ) (ch : Channel) (es fs : List Event) (e : Event) → Starts levels ch es e → keeps_from ch (and_then es e) fs ≡ true
    → pulses_from levels ch es (e ∷ fs) ≡ pulses_in (Pulse (standing levels ch es e) ∷ rest_of levels ch es e fs)
pulses_started levels ch es fs e h k =
    pulses_from_lem levels ch es (e ∷ fs) h.mode (keeps_all levels ch es fs e h k) ∙ ap pulses_in (inputs_started levels ch es fs e h.pulse h.mode)

-- the transmitter's level
driven : (levels : ℕ) (ch : Channel) (es fs : List Event) (e : Event) → Starts levels ch es e → keeps_from ch (and_then es e) fs ≡ true
    → pulses_from levels ch (and_then es e) fs < length (started_frame levels ch es e)
    → (sender_after levels ch (and_then es e ++ fs)).txd ≡ get_or (started_frame levels ch es e) (pulses_from levels ch (and_then es e) fs) true
driven levels ch es fs e h k l =
    let count = rest_pulses levels ch es fs e h k in
    rw (sender_started levels ch es fs e h.pulse h.mode, count)
    ((Frames.sends).level (sender_after levels ch es) (standing levels ch es e) (rest_of levels ch es e fs) h.startable
    (keeps_from_lem levels ch (and_then es e) fs k) (rw count at l))

-- the mode in which it started
started_mode : (levels : ℕ) (ch : Channel) (es fs : List Event) (e : Event) → Starts levels ch es e → keeps_from ch (and_then es e) fs ≡ true
    → mode_bits (programmed ch (and_then es e ++ fs)) ≡ mode_bits (programmed ch es)
started_mode levels ch es fs e h k = mode_from ch (and_then es e) fs k ∙ ap (λ (p : Programmed). mode_bits p) (pulse_mode levels ch es e h.pulse)

level : (levels : ℕ) (ch : Channel) (es fs : List Event) (e : Event) → Starts levels ch es e → in_normal (programmed ch es) ≡ true
    → keeps_from ch (and_then es e) fs ≡ true → pulses_from levels ch (and_then es e) fs < length (started_frame levels ch es e)
    → txd_after chip levels ch (and_then es e ++ fs) ≡ get_or (started_frame levels ch es e) (pulses_from levels ch (and_then es e) fs) true
level levels ch es fs e h n k l =
    txd_normal levels ch (and_then es e ++ fs) (rw (started_mode levels ch es fs e h k) n) ∙ driven levels ch es fs e h k l

looped : (levels : ℕ) (ch : Channel) (es fs : List Event) (e : Event) → Starts levels ch es e → in_local (programmed ch es) ≡ true
    → keeps_from ch (and_then es e) fs ≡ true → pulses_from levels ch (and_then es e) fs < length (started_frame levels ch es e)
    → (txd_after chip levels ch (and_then es e ++ fs) ≡ true)
    × ((sender_after levels ch (and_then es e ++ fs)).txd ≡ get_or (started_frame levels ch es e) (pulses_from levels ch (and_then es e) fs) true)
looped levels ch es fs e h n k l =
    (txd_local levels ch (and_then es e ++ fs) (rw (started_mode levels ch es fs e h k) n), driven levels ch es fs e h k l)

-- the levels at the inputs' pulses are the frame's, and so are those of TxD in normal mode
pub frame_line : (levels : ℕ) (ch : Channel) (es fs : List Event) (e : Event) → Starts levels ch es e → keeps_from ch (and_then es e) fs ≡ true
    → pulses_from levels ch es (e ∷ fs) ≤ length (started_frame levels ch es e)
    → line after_input (sender_after levels ch es) (inputs_from levels ch es (e ∷ fs)) ≡ take (pulses_from levels ch es (e ∷ fs)) (started_frame levels ch es e)
frame_line levels ch es fs e h k l =
    let count = pulses_started levels ch es fs e h k in
    rw (inputs_started levels ch es fs e h.pulse h.mode, count)
    (line_started (sender_after levels ch es) (standing levels ch es e) (rest_of levels ch es e fs) h.startable
    (keeps_from_lem levels ch (and_then es e) fs k) (rw count at l))

sent_line : (levels : ℕ) (ch : Channel) (es fs : List Event) (e : Event) → Starts levels ch es e → in_normal (programmed ch es) ≡ true
    → keeps_from ch (and_then es e) fs ≡ true → pulses_from levels ch es (e ∷ fs) ≤ length (started_frame levels ch es e)
    → sent_from chip levels ch es (e ∷ fs) ≡ take (pulses_from levels ch es (e ∷ fs)) (started_frame levels ch es e)
sent_line levels ch es fs e h n k l =
    line_from levels ch es (e ∷ fs) n (keeps_all levels ch es fs e h k) ∙ frame_line levels ch es fs e h k l

-- ---- the shifter ----

busy : (levels : ℕ) (ch : Channel) (es fs : List Event) (e : Event) → Starts levels ch es e → keeps_from ch (and_then es e) fs ≡ true
    → pulses_from levels ch (and_then es e) fs < length (started_frame levels ch es e)
    → status_bit chip levels ch (and_then es e ++ fs) 3 ≡ false
busy levels ch es fs e h k l =
    let held : shifter_empty (sender_after levels ch (and_then es e ++ fs)) ≡ false =
    rw (sender_started levels ch es fs e h.pulse h.mode)
    ((Frames.sends).holds (sender_after levels ch es) (standing levels ch es e) (rest_of levels ch es e fs) h.startable
    (keeps_from_lem levels ch (and_then es e) fs k) (rw (rest_pulses levels ch es fs e h k) at l)) in
    empty_shown levels ch (and_then es e ++ fs) ∙ rw (held, and-false)

over : (levels : ℕ) (ch : Channel) (es fs : List Event) (e next : Event) → Starts levels ch es e → keeps_from ch (and_then es e) fs ≡ true
    → pulses_from levels ch es (e ∷ fs) ≡ length (started_frame levels ch es e) → pulsed_after transmits ch levels (and_then es e ++ fs) next ≡ true
    → status_bit chip levels ch (and_then es e ++ fs) 2 ≡ true → status_bit chip levels ch (and_then (and_then es e ++ fs) next) 3 ≡ true
unfolding pulses_in pick
over levels ch es fs e next h k all p ready =
    let now : List Event = and_then es e ++ fs in
    let s : Standing = standing levels ch now next in
    let mode : in_echo (programmed ch now) ≡ false = rw (started_mode levels ch es fs e h k) h.mode in
    let none : can_start (sender_after levels ch now) s ≡ false = rw ((ready_then levels ch now ready).1, and-false) in
    let whole = sender_started levels ch es fs e h.pulse h.mode in
    let empty : shifter_empty (sender_after levels ch (and_then now next)) ≡ true =
    rw (sender_pulsed levels ch now next p mode, whole)
    (((Frames.sends).over (sender_after levels ch es) (standing levels ch es e) (rest_of levels ch es e fs) h.startable
    (keeps_from_lem levels ch (and_then es e) fs k) (sym (pulses_started levels ch es fs e h k) ∙ all)).1 s (rw whole at none)) in
    empty_shown levels ch (and_then now next) ∙ rw (pulse_ready levels ch now next p ready mode, empty)

pub sends : Sends (chip_of step_of)
sends =
    record { waits = waits; goes = goes; leaves = leaves; level = level; line = sent_line; looped = looped; busy = busy; over = over }
