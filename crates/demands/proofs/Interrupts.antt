-- The lines after some events are those that the device drives, and ISR and the status registers are made of the same bits: a bit of the one is a
-- bit of the other, or what the events tell. Assumes nothing.
use Prim.Native.Nat.{ℕ, ◌%◌}
use mathlib.Core.Path.{◌≡◌, refl, sym, ◌∙◌, ap}
use mathlib.Core.Bool.{Bool, true, false, not, and-false}
use mathlib.Core.List.{List}
use native.Mathlib.Omega.{arith}
use lib.Dec.{eqb}
use borrow.Author.Tests.{eqb-true}
use Rattle.format.specs.Pick.{pick}
use Rattle.format.proofs.Laws.Pick.{pick_yes, pick_no, pick_all}
use Rattle.receiver_status.specs.declared.status.Status.{Status}
use Rattle.byte_bits.specs.Bytes.{has_bit}
use Rattle.transmitter_state.specs.declared.state.Transmitter.{Transmitter}
use Rattle.transmitter_state.specs.State.{after_break, sending, idle_phase, with_holding}
use Rattle.transmitter.specs.Commands.{written_of, break_ended, dropped_of, reset_of, enabled_of}
use Rattle.transmitter.specs.declared.status.TransmitterStatus.{TransmitterStatus}
use Rattle.transmitter.specs.Status as Transmitters
use Rattle.transmitter.specs.Transmitter.{after_input}
use Rattle.front_commands.specs.Commands.{transmitter_effect, transmitter_enabling, side_commanded}
use Rattle.front_side.specs.declared.side.Side.{Side}
use Rattle.front_side.specs.Side.{buffer_written}
use Rattle.front_modes.specs.Modes.{sender_shown}
use Rattle.chip_shown.specs.Shown.{received_of, shown_of}
use Rattle.front.specs.declared.front.Front.{Front}
use Rattle.front.specs.Front.{front_at}
use Rattle.chip_answers.specs.declared.answers.Lines.{Lines}
use Rattle.chip_answers.specs.Answers.{asserted_of, lines_of}
use Rattle.events.specs.declared.events.Event.{Event}
use Rattle.events.specs.declared.events.Event.TheVariants.{Write, Acknowledge}
use Rattle.chip_device.specs.declared.device.Device.{Device}
use Rattle.chip_device.specs.Device.{is_sound_of, device_lines}
use Rattle.chip_refusals.specs.Rows.{register_above15, forbidden_read, forbidden_command, setting_not_modelled, device_asserted, acknowledged_unasserted}
use Rattle.chip_refusals.specs.Refusals.{first_of}
use Rattle.front_events.specs.FrontEvents.{front_stepped}
use Rattle.receiver.specs.Receiver.{fed_of}
use Rattle.chip_step.specs.declared.chip.Answer.{Answer}
use Rattle.chip_step.specs.Chip.{taken_of, step_of}
use Rattle.chip_step.proofs.Laws.Table.{accepts, refuses_first}
use Rattle.chip_laws.specs.Reset.{reset_at}
use Rattle.demands.specs.Chip.{chip_of, Channel, of_channel, register_of, and_then, shows, status_bit, lines_after}
use Rattle.demands.specs.Chip.Channel.{A, B}
use Rattle.demands.specs.Told.{Programmed, unprogrammed, programmed_then, programmed, in_echo}
use Rattle.demands.specs.Clocks.{front_then, front_after, side_of}
use Rattle.demands.specs.Registers.{changes_after, imr_after, acr_after, share_bit, Interrupts}
use Rattle.demands.proofs.Laws.Run.{run_at, run_then, run_front, run_sound}
use Rattle.demands.proofs.Laws.Bits.{bit_7, bit_5, bit_4, bit_1, bit_0}
use Rattle.demands.proofs.Laws.Fronts.{side_written, front_written_lem}
use Rattle.demands.proofs.Laws.Told.{over_then, told, imr_told, acr_told, programmed_of}
use Rattle.demands.proofs.Laws.Modes.{echo_told}
use Rattle.demands.proofs.Laws.Ports.{changes_told}
use Rattle.demands.proofs.Laws.Looks.{chip, receiver_on, step_lines, lines_after_lem, interrupts_shown, ready_bit, full_bit, sends_bit, empty_bit}

-- ---- the lines ----

lines_stand : (levels : ℕ) (es : List Event) (e : Event) → (chip levels es e).lines ≡ lines_after chip levels (and_then es e)
unfolding chip_of
lines_stand levels es e =
    step_lines (run_at levels es) e (run_sound levels es)
    ∙ sym (lines_after_lem levels (and_then es e) ∙ ap (λ (d : Device). device_lines d) (run_then (reset_at levels) es e))

irq_after : (levels : ℕ) (es : List Event) → (lines_after chip levels es).irq ≡ device_asserted (run_at levels es)
unfolding lines_of
irq_after levels es = ap (λ (x : Lines). x.irq) (lines_after_lem levels es)

asserted_shown : (levels : ℕ) (es : List Event) → (lines_after chip levels es).irq ≡ share_bit (shows chip levels es 5) (imr_after es)
unfolding asserted_of
asserted_shown levels es = irq_after levels es ∙ rw (interrupts_shown levels es, imr_told levels es, run_front levels es)

-- no row but the sixth refuses an acknowledge of a sound device
acknowledge_number : (d : Device) → is_sound_of d ≡ true → (step_of d Acknowledge).number ≡ pick (device_asserted d) 0 6
unfolding first_of acknowledged_unasserted register_above15 forbidden_read forbidden_command setting_not_modelled taken_of front_stepped fed_of pick
acknowledge_number d s = go (device_asserted d) refl
  where
    go : (t : Bool) → device_asserted d ≡ t → (step_of d Acknowledge).number ≡ pick t 0 6
    go true e = ap (λ (x : Answer). x.number) (accepts d Acknowledge (rw (s, e)) s)
    go false e =
        let first : first_of d Acknowledge 0 ≡ 6 = rw (s, e) in
        ap (λ (x : Answer). x.number) (refuses_first d Acknowledge (omega arith)) ∙ first

acknowledge_shown : (levels : ℕ) (es : List Event) → (chip levels es Acknowledge).number ≡ pick (lines_after chip levels es).irq 0 6
unfolding chip_of
acknowledge_shown levels es = rw (irq_after levels es) (acknowledge_number (run_at levels es) (run_sound levels es))

-- ---- ISR ----

input_shown : (levels : ℕ) (es : List Event) → has_bit (shows chip levels es 5) 7 ≡ share_bit (changes_after levels es).flags (acr_after es % 16)
input_shown levels es = rw (interrupts_shown levels es, bit_7, changes_told levels es, acr_told levels es)

ready_shown : (levels : ℕ) (ch : Channel) (es : List Event) → has_bit (shows chip levels es 5) (of_channel ch 0 4) ≡ status_bit chip levels ch es 2
unfolding shown_of
ready_shown levels A es = rw (interrupts_shown levels es, sends_bit levels A es) (bit_0 _ _ _ _ _ _ _ _)
ready_shown levels B es = rw (interrupts_shown levels es, sends_bit levels B es) (bit_4 _ _ _ _ _ _ _ _)

-- FFULL or RxRDY, by MR1 bit 6
by_mode : (mr1 : ℕ) (x : Status) → received_of mr1 x ≡ pick (has_bit mr1 6) x.full x.ready
unfolding received_of has_bit pick
by_mode mr1 x = refl

received_shown : (levels : ℕ) (ch : Channel) (es : List Event)
    → has_bit (shows chip levels es 5) (of_channel ch 1 5)
    ≡ pick (has_bit (programmed ch es).mr1 6) (status_bit chip levels ch es 1) (status_bit chip levels ch es 0)
unfolding shown_of
received_shown levels A es =
    rw (interrupts_shown levels es, told A levels es, full_bit levels A es, ready_bit levels A es)
    (bit_1 _ _ _ _ _ _ _ _ ∙ by_mode _ (receiver_on A levels es))
received_shown levels B es =
    rw (interrupts_shown levels es, told B levels es, full_bit levels B es, ready_bit levels B es)
    (bit_5 _ _ _ _ _ _ _ _ ∙ by_mode _ (receiver_on B levels es))

-- ---- TxRDY and TxEMT ----

neither : (t : Transmitter) → t.enabled ≡ false → ((Transmitters.status_of t).ready ≡ false) × ((Transmitters.status_of t).empty ≡ false)
neither t e = (rw e, rw e)

-- what reads 0 of the transmitter reads 0 of its channel, in any mode
ready_off : (s : Side) → (Transmitters.status_of s.transmitter).ready ≡ false → (sender_shown s).ready ≡ false
unfolding sender_shown
ready_off s h = pick_all (λ (x : TransmitterStatus). x.ready ≡ false) _ _ _ refl h

empty_off : (s : Side) → (Transmitters.status_of s.transmitter).empty ≡ false → (sender_shown s).empty ≡ false
unfolding sender_shown
empty_off s h = pick_all (λ (x : TransmitterStatus). x.empty ≡ false) _ _ _ refl h

-- and it is the transmitter's in a mode that does not echo
shown_sending : (s : Side) → in_echo (programmed_of s) ≡ false → sender_shown s ≡ Transmitters.status_of s.transmitter
unfolding sender_shown
shown_sending s h = pick_no _ _ _ (sym (echo_told s) ∙ h)

-- order 2: "TxRDY and TxEMT read 0"
echoing_shown : (levels : ℕ) (ch : Channel) (es : List Event) → in_echo (programmed ch es) ≡ true
    → (status_bit chip levels ch es 2 ≡ false) × (status_bit chip levels ch es 3 ≡ false)
unfolding sender_shown
echoing_shown levels ch es h =
    let s : Side = side_of ch (front_after levels es) in
    let off : sender_shown s ≡ record { ready = false; empty = false } =
    pick_yes _ _ _ (sym (echo_told s) ∙ ap (λ (p : Programmed). in_echo p) (sym (told ch levels es)) ∙ h) in (
      sends_bit levels ch es ∙ ap (λ (x : TransmitterStatus). x.ready) off,
      empty_bit levels ch es ∙ ap (λ (x : TransmitterStatus). x.empty) off,
    )

disabled_shown : (levels : ℕ) (ch : Channel) (es : List Event) → (programmed ch es).transmits ≡ false
    → (status_bit chip levels ch es 2 ≡ false) × (status_bit chip levels ch es 3 ≡ false)
disabled_shown levels ch es h =
    let s = side_of ch (front_after levels es) in
    let both = neither s.transmitter (sym (ap (λ (p : Programmed). p.transmits) (told ch levels es)) ∙ h) in
    (sends_bit levels ch es ∙ ready_off s both.0, empty_bit levels ch es ∙ empty_off s both.1)

-- the side after one write more
side_written_lem : (levels : ℕ) (ch : Channel) (es : List Event) (n byte : ℕ)
    → side_of ch (front_after levels (and_then es (Write n byte))) ≡ side_written ch (front_after levels es) n byte
side_written_lem levels A es n byte = ap (λ (f : Front). f.a) (over_then front_then (front_at levels) es (Write n byte) ∙ front_written_lem _ n byte)
side_written_lem levels B es n byte = ap (λ (f : Front). f.b) (over_then front_then (front_at levels) es (Write n byte) ∙ front_written_lem _ n byte)

-- a write fills the holding place, or is ignored
holding : (t : Transmitter) (byte : ℕ) → (Transmitters.status_of (written_of t byte)).ready ≡ false
unfolding written_of pick
holding t byte = go t.enabled refl
  where
    go : (b : Bool) → t.enabled ≡ b → (Transmitters.status_of (pick b (with_holding t true byte) t)).ready ≡ false
    go true e = and-false t.enabled
    go false e = rw e

written_buffer : (ch : Channel) (f : Front) (byte : ℕ)
    → (side_written ch f (register_of ch 3) byte).transmitter ≡ written_of (side_of ch f).transmitter byte
unfolding buffer_written after_input pick
written_buffer A f byte = refl
written_buffer B f byte = refl

written_shown : (levels : ℕ) (ch : Channel) (es : List Event) (byte : ℕ)
    → status_bit chip levels ch (and_then es (Write (register_of ch 3) byte)) 2 ≡ false
written_shown levels ch es byte =
    sends_bit levels ch (and_then es (Write (register_of ch 3) byte))
    ∙ ready_off _ (rw (side_written_lem levels ch es (register_of ch 3) byte, written_buffer) (holding _ byte))

-- "reset transmitter", then "enable": both places are empty, for what is left of a break is no character
both_empty : (t : Transmitter)
    → ((Transmitters.status_of (enabled_of (reset_of t))).ready ≡ true) × ((Transmitters.status_of (enabled_of (reset_of t))).empty ≡ true)
unfolding dropped_of pick
both_empty t = (refl, go (eqb (break_ended t).phase after_break) refl)
  where
    go : (b : Bool) → eqb (break_ended t).phase after_break ≡ b → not (eqb (pick b (break_ended t).phase idle_phase) sending) ≡ true
    go true e = let z : (break_ended t).phase ≡ 3 = eqb-true _ 3 e in rw z
    go false e = refl

written_command : (ch : Channel) (f : Front) → (side_written ch f (register_of ch 2) 52).transmitter ≡ enabled_of (reset_of (side_of ch f).transmitter)
unfolding side_commanded transmitter_effect transmitter_enabling after_input pick
written_command A f = refl
written_command B f = refl

-- a command leaves the mode
command_mode : (ch : Channel) (es : List Event) → in_echo (programmed ch (and_then es (Write (register_of ch 2) 52))) ≡ in_echo (programmed ch es)
unfolding programmed_then pick
command_mode A es = rw (over_then (programmed_then A) unprogrammed es (Write 2 52))
command_mode B es = rw (over_then (programmed_then B) unprogrammed es (Write 10 52))

enabled_shown : (levels : ℕ) (ch : Channel) (es : List Event) → in_echo (programmed ch es) ≡ false
    → (status_bit chip levels ch (and_then es (Write (register_of ch 2) 52)) 2 ≡ true)
    × (status_bit chip levels ch (and_then es (Write (register_of ch 2) 52)) 3 ≡ true)
enabled_shown levels ch es h =
    let fs = and_then es (Write (register_of ch 2) 52) in
    let s = side_written_lem levels ch es (register_of ch 2) 52 in
    let both = both_empty (side_of ch (front_after levels es)).transmitter in
    let on = shown_sending (side_of ch (front_after levels fs)) (ap (λ (p : Programmed). in_echo p) (sym (told ch levels fs)) ∙ command_mode ch es ∙ h) in (
      sends_bit levels ch fs ∙ ap (λ (x : TransmitterStatus). x.ready) on ∙ rw (s, written_command) both.0,
      empty_bit levels ch fs ∙ ap (λ (x : TransmitterStatus). x.empty) on ∙ rw (s, written_command) both.1,
    )

pub interrupts : Interrupts (chip_of step_of)
interrupts =
    record {
      lines = lines_stand;
      asserted = asserted_shown;
      acknowledge = acknowledge_shown;
      input = input_shown;
      ready = ready_shown;
      received = received_shown;
      disabled = disabled_shown;
      written = written_shown;
      enabled = enabled_shown;
      echoing = echoing_shown;
    }
