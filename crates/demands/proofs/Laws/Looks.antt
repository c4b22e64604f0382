-- What the statements look at, of the device that the events lead to: the lines of an answer are those that the new state drives, and ISR and the
-- status registers are made of what the front run alone and the receivers show. Assumes nothing.
use Prim.Native.Nat.{ℕ, zero, suc}
use mathlib.Core.Path.{◌≡◌, refl, sym, ◌∙◌, ap}
use mathlib.Core.Bool.{true, true≢false}
use mathlib.Core.List.{List, [], ◌∷◌}
use native.Mathlib.Omega.{arith}
use borrow.Author.Tests.{ne_eqb}
use Rattle.format.specs.Pick.{pick}
use Rattle.receiver_status.specs.declared.status.Status.{Status}
use Rattle.receiver_status.specs.Status.{status_of}
use Rattle.transmitter.specs.declared.status.TransmitterStatus.{TransmitterStatus}
use Rattle.front_modes.specs.Modes.{sender_shown}
use Rattle.byte_bits.specs.Bytes.{has_bit}
use Rattle.chip_shown.specs.declared.shown.Shown.{Shown}
use Rattle.chip_shown.specs.Shown.{block_errors, shown_of, channel_shown}
use Rattle.chip_answers.specs.Answers.{isr_of}
use Rattle.events.specs.declared.events.Event.{Event}
use Rattle.events.specs.declared.events.Event.TheVariants.{Read, Write}
use Rattle.chip_device.specs.declared.device.Device.{Device}
use Rattle.chip_device.specs.Device.{is_sound_of, device_lines}
use Rattle.chip_step.specs.Chip.{step_of}
use Rattle.chip_laws.specs.Table.{row}
use Rattle.chip_laws.proofs.Table.{table}
use Rattle.demands.specs.Chip.{Chip, chip_of, Channel, of_channel, register_of, shows, status_bit, lines_after}
use Rattle.demands.specs.Chip.Channel.{A, B}
use Rattle.demands.specs.Clocks.{front_after, side_of}
use Rattle.demands.proofs.Laws.Run.{run_at, run_front, run_sound, receiver_at, status_byte, interrupt_byte, status_quiet}
use Rattle.demands.proofs.Laws.Bits.{bit_0, bit_1, bit_2, bit_3, bit_6}

abbrev pub chip : Chip
chip = chip_of step_of

-- IMR bit 0, and transmitter A enabled: ISR bit 0. Examples of met and of shut-out statements go by it.
abbrev pub asking : List Event
asking = Write 5 1 ∷ Write 2 4 ∷ []

-- ---- a channel, after some events ----

-- what it shows
abbrev pub shown_on : Channel → ℕ → List Event → Shown
shown_on ch levels es = channel_shown (side_of ch (front_after levels es)) (receiver_at ch (run_at levels es))

-- and its receiver, and its transmitter
abbrev pub receiver_on : Channel → ℕ → List Event → Status
receiver_on ch levels es = status_of (receiver_at ch (run_at levels es)) (block_errors (side_of ch (front_after levels es)))

abbrev pub transmitter_on : Channel → ℕ → List Event → TransmitterStatus
transmitter_on ch levels es = sender_shown (side_of ch (front_after levels es))

-- ---- the lines ----

-- row 1 refuses no event of a sound device
never_one : (d : Device) (e : Event) → is_sound_of d ≡ true → (step_of d e).number ≡ 1 → ⊥
unfolding row pick
never_one d e s z =
    let refused : (step_of d e).number ≡ 0 → ⊥ = omega arith in
    let first = (table.only d e refused).applies in
    true≢false (sym (rw (z, s) at first))

pub step_lines : (d : Device) (e : Event) → is_sound_of d ≡ true → (step_of d e).lines ≡ device_lines (step_of d e).state
unfolding pick
step_lines d e s = go (step_of d e).number refl
  where
    go : (n : ℕ) → (step_of d e).number ≡ n → (step_of d e).lines ≡ device_lines (step_of d e).state
    go zero z = rw (table.taken d e z)
    go (suc n) z =
        let refused : (step_of d e).number ≡ 0 → ⊥ = omega arith in
        table.lines d e refused ∙ rw (ne_eqb (step_of d e).number 1 (never_one d e s), table.unaltered d e refused)

pub lines_after_lem : (levels : ℕ) (es : List Event) → lines_after chip levels es ≡ device_lines (run_at levels es)
unfolding chip_of
lines_after_lem levels es =
    step_lines (run_at levels es) (Read 1) (run_sound levels es)
    ∙ ap (λ (d : Device). device_lines d) (status_quiet A (run_at levels es))

-- ---- ISR ----

pub interrupts_shown : (levels : ℕ) (es : List Event)
    → shows chip levels es 5 ≡ isr_of (front_after levels es) (shown_on A levels es) (shown_on B levels es)
unfolding chip_of
interrupts_shown levels es = rw (← run_front levels es) (interrupt_byte (run_at levels es) (run_sound levels es))

-- "ISR bits 7-0: .. break change B, .. break change A"
pub change_bit : (levels : ℕ) (ch : Channel) (es : List Event)
    → has_bit (shows chip levels es 5) (of_channel ch 2 6) ≡ (receiver_at ch (run_at levels es)).change
unfolding shown_of
change_bit levels A es = rw (interrupts_shown levels es) (bit_2 _ _ _ _ _ _ _ _)
change_bit levels B es = rw (interrupts_shown levels es) (bit_6 _ _ _ _ _ _ _ _)

-- ---- a status register ----

status_shown : (levels : ℕ) (ch : Channel) (es : List Event) → shows chip levels es (register_of ch 1) ≡ (shown_on ch levels es).status
unfolding chip_of
status_shown levels ch es = rw (← run_front levels es) (status_byte ch (run_at levels es) (run_sound levels es))

-- RxRDY, FFULL, TxRDY, TxEMT
pub ready_bit : (levels : ℕ) (ch : Channel) (es : List Event) → status_bit chip levels ch es 0 ≡ (receiver_on ch levels es).ready
unfolding shown_of
ready_bit levels ch es = rw (status_shown levels ch es) (bit_0 _ _ _ _ _ _ _ _)

pub full_bit : (levels : ℕ) (ch : Channel) (es : List Event) → status_bit chip levels ch es 1 ≡ (receiver_on ch levels es).full
unfolding shown_of
full_bit levels ch es = rw (status_shown levels ch es) (bit_1 _ _ _ _ _ _ _ _)

pub sends_bit : (levels : ℕ) (ch : Channel) (es : List Event) → status_bit chip levels ch es 2 ≡ (transmitter_on ch levels es).ready
unfolding shown_of
sends_bit levels ch es = rw (status_shown levels ch es) (bit_2 _ _ _ _ _ _ _ _)

pub empty_bit : (levels : ℕ) (ch : Channel) (es : List Event) → status_bit chip levels ch es 3 ≡ (transmitter_on ch levels es).empty
unfolding shown_of
empty_bit levels ch es = rw (status_shown levels ch es) (bit_3 _ _ _ _ _ _ _ _)
