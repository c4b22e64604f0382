-- What a program sees of a receiver beside the characters: RxRDY and FFULL count what is held, a read of an empty queue leaves the device, and SR
-- bits 7-5 and ISR's break change are fields of the receiver that follow the events. Assumes nothing.
use Prim.Native.Nat.{ℕ, zero, suc}
use mathlib.Core.Path.{◌≡◌, refl, sym, ◌∙◌, ap}
use mathlib.Core.Bool.{Bool, true, false, not}
use mathlib.Core.List.{List, [], ◌∷◌, ◌++◌}
use native.Mathlib.Omega.{arith}
use lib.Dec.{eqb, leb}
use lib.ListN.{length}
use borrow.Author.Tests.{le-leb, ne_eqb, not-false}
use Rattle.format.specs.Pick.{pick}
use Rattle.character.specs.Character.{no_marks}
use Rattle.queue.specs.Queue.{is_empty_of}
use Rattle.queue.proofs.Laws.Queue.{at_least_held}
use Rattle.receiver_state.specs.declared.arrivals.Receiver.{Receiver}
use Rattle.receiver_status.specs.Status.{shown_marks}
use Rattle.receiver.specs.Delivery.{oldest_known}
use Rattle.receiver.specs.Receiver.{read_of, fed_of}
use Rattle.byte_bits.specs.Bytes.{has_bit}
use Rattle.chip_shown.specs.Shown.{block_errors}
use Rattle.front_reads.specs.Reads.{side_read, register_read}
use Rattle.events.specs.declared.events.Event.{Event}
use Rattle.events.specs.declared.events.Event.TheVariants.{Read}
use Rattle.front_events.specs.FrontEvents.{front_stepped}
use Rattle.chip_refusals.specs.Rows.{register_above15, forbidden_read, forbidden_command, setting_not_modelled}
use Rattle.chip_device.specs.declared.device.Device.{Device}
use Rattle.chip_device.specs.Device.{is_sound_of}
use Rattle.chip_step.specs.Chip.{step_of}
use Rattle.chip_laws.specs.Alone.{handed_after}
use Rattle.chip_laws.proofs.Alone.{alone_state}
use Rattle.chip_laws.proofs.Sound.{never_seven}
use Rattle.demands.specs.Chip.{Channel, of_channel, register_of, chip_of, shows, status_bit}
use Rattle.demands.specs.Chip.Channel.{A, B}
use Rattle.demands.specs.Told.{programmed}
use Rattle.demands.specs.Clocks.{side_of}
use Rattle.demands.specs.Delivery.{ledger, held}
use Rattle.demands.specs.Received.{status_marks, last_from, sums_from, change_from, Received}
use Rattle.demands.proofs.Laws.Bits.{bit_7, bit_6, bit_5}
use Rattle.demands.proofs.Laws.Run.{run_at, run_front, run_sound, receiver_at}
use Rattle.demands.proofs.Laws.Told.{told}
use Rattle.demands.proofs.Laws.Looks.{chip, full_bit, change_bit, ready_bit}
use Rattle.demands.proofs.Laws.Buffer.{status_told, four_counted, held_queue}
use Rattle.demands.proofs.Laws.Follows.{receiver_after, shows_buffer, last_after, oldest_known_lem, sums_after, change_after}
use Rattle.demands.proofs.Registers.{same_after}

-- ---- RxRDY and FFULL ----

-- not none is at least one
some : (n : ℕ) → not (eqb n 0) ≡ leb 1 n
some zero = refl
some (suc n) = rw (le-leb 1 (suc n) (omega arith), ne_eqb (suc n) 0 (omega arith))

-- the count is the number of those held, for it is at most four
counted : (levels : ℕ) (ch : Channel) (es : List Event) (k : ℕ)
    → leb k (receiver_after ch levels es).queue.count ≡ leb k (length (held chip levels ch es))
counted levels ch es k =
    rw (held_queue levels ch es) (at_least_held (receiver_after ch levels es).queue k (four_counted ch (run_at levels es) (run_sound levels es)))

ready_held : (levels : ℕ) (ch : Channel) (es : List Event) → status_bit chip levels ch es 0 ≡ leb 1 (length (held chip levels ch es))
ready_held levels ch es = ready_bit levels ch es ∙ some (receiver_after ch levels es).queue.count ∙ counted levels ch es 1

full_held : (levels : ℕ) (ch : Channel) (es : List Event) → status_bit chip levels ch es 1 ≡ leb 3 (length (held chip levels ch es))
full_held levels ch es = full_bit levels ch es ∙ counted levels ch es 3

empty_shown : (levels : ℕ) (ch : Channel) (es : List Event) → status_bit chip levels ch es 0 ≡ false
    → is_empty_of (receiver_after ch levels es).queue ≡ true
empty_shown levels ch es h = not-false _ (sym (ready_bit levels ch es) ∙ h)

-- ---- the last byte read ----

-- "reading an empty queue repeats the last byte read"
empty_byte : (r : Receiver) → is_empty_of r.queue ≡ true → (read_of r).byte ≡ r.last
unfolding read_of pick
empty_byte r h = rw h

repeats_last : (levels : ℕ) (ch : Channel) (es : List Event) → status_bit chip levels ch es 0 ≡ false
    → shows chip levels es (register_of ch 3) ≡ last_from chip levels ch 0 [] es
repeats_last levels ch es h =
    shows_buffer levels ch es ∙ empty_byte (receiver_after ch levels es) (empty_shown levels ch es h)
    ∙ sym (last_after levels ch es)

-- "and takes nothing"
empty_read : (r : Receiver) → is_empty_of r.queue ≡ true → (read_of r).receiver ≡ r
unfolding read_of pick
empty_read r h = rw h

nothing_taken : (ch : Channel) (d : Device) → is_sound_of d ≡ true → is_empty_of (receiver_at ch d).queue ≡ true
    → (step_of d (Read (register_of ch 3))).state ≡ d
unfolding handed_after register_above15 forbidden_read forbidden_command setting_not_modelled front_stepped register_read side_read fed_of pick
nothing_taken A d s h =
    alone_state never_seven d (Read 3) s ∙ ap (λ (r : Receiver). record { front = d.front; a = r; b = d.b }) (empty_read d.a h)
nothing_taken B d s h =
    alone_state never_seven d (Read 11) s ∙ ap (λ (r : Receiver). record { front = d.front; a = d.a; b = r }) (empty_read d.b h)

nothing_read : (levels : ℕ) (ch : Channel) (es fs : List Event) (e : Event) → status_bit chip levels ch es 0 ≡ false
    → chip levels (es ++ Read (register_of ch 3) ∷ fs) e ≡ chip levels (es ++ fs) e
nothing_read levels ch es fs e h =
    same_after levels es fs (Read (register_of ch 3)) e (nothing_taken ch (run_at levels es) (run_sound levels es) (empty_shown levels ch es h))

-- ---- SR bits 7-5 ----

-- "MR1: .. 5 block errors"
block_told : (levels : ℕ) (ch : Channel) (es : List Event) → block_errors (side_of ch (run_at levels es).front) ≡ has_bit (programmed ch es).mr1 5
unfolding has_bit pick
block_told levels ch es = rw (run_front levels es, told ch levels es)

marks_told : (levels : ℕ) (ch : Channel) (es : List Event) (t : Bool) → has_bit (programmed ch es).mr1 5 ≡ t
    → status_marks chip levels ch es ≡ shown_marks (receiver_after ch levels es) t
marks_told levels ch es t h = rw (status_told levels ch es, bit_7, bit_6, bit_5, block_told levels ch es, h)

character_marks : (levels : ℕ) (ch : Channel) (es : List Event) → has_bit (programmed ch es).mr1 5 ≡ false
    → status_marks chip levels ch es ≡ oldest_known (ledger ch levels es).entries
unfolding shown_marks pick
character_marks levels ch es h = marks_told levels ch es false h ∙ oldest_known_lem levels ch es

block_marks : (levels : ℕ) (ch : Channel) (es : List Event) → has_bit (programmed ch es).mr1 5 ≡ true
    → status_marks chip levels ch es ≡ sums_from ch levels no_marks [] es
unfolding shown_marks pick
block_marks levels ch es h = marks_told levels ch es true h ∙ sym (sums_after levels ch es)

-- ---- break change ----

change_shown : (levels : ℕ) (ch : Channel) (es : List Event) → has_bit (shows chip levels es 5) (of_channel ch 2 6) ≡ change_from ch levels false [] es
change_shown levels ch es = change_bit levels ch es ∙ sym (change_after levels ch es)

pub received : Received (chip_of step_of)
received =
    record {
      ready = ready_held;
      full = full_held;
      repeats = repeats_last;
      nothing = nothing_read;
      character = character_marks;
      block = block_marks;
      change = change_shown;
    }
