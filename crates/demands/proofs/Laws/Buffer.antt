-- What the answers tell of a channel's receiver: SR's bits are its status, a read of the buffer while the ready bit is set gives the oldest that it
-- holds, and so many reads give all. Assumes nothing.
use Prim.Native.Nat.{ℕ, zero, suc, ◌≤◌}
use mathlib.Core.Path.{◌≡◌, refl, sym, ◌∙◌}
use mathlib.Core.Bool.{true, false, and-false, and-eq-true_iff}
use mathlib.Core.List.{List, [], ◌∷◌, ◌++◌}
use native.Mathlib.Omega.{arith}
use lib.ListN.{length, take, replicate}
use borrow.Author.Tests.{leb-true}
use Rattle.format.specs.Pick.{pick}
use Rattle.character.specs.declared.character.Character.{Character}
use Rattle.queue.specs.Queue.{held_of, took}
use Rattle.queue.proofs.Laws.Queue.{held_length, is_empty_held}
use Rattle.sampler.specs.Sound.{sampler_in_range}
use Rattle.receiver_state.specs.declared.arrivals.Receiver.{Receiver}
use Rattle.receiver_commands.specs.Commands.{effect_of, enabling_of}
use Rattle.receiver_status.specs.Status.{status_of}
use Rattle.feed.specs.declared.feed.Feed.TheVariants as Feeds
use Rattle.receiver.specs.Receiver.{fed_of}
use Rattle.receiver.specs.Sound.{receiver_in_range}
use Rattle.receiver.specs.Delivery.{given}
use Rattle.receiver.proofs.Delivery.{given_held, read_held}
use Rattle.front_modes.specs.Modes.{sender_shown, mode_set}
use Rattle.chip_soundness.specs.Soundness.{receiver_sound}
use Rattle.front_side.specs.Side.{mode_not_modelled, mode_written}
use Rattle.chip_shown.specs.Shown.{status_register, block_errors, shown_of}
use Rattle.front_commands.specs.Commands.{receiver_effect, receiver_enabling, side_commanded, command_feed}
use Rattle.front.specs.declared.front.Front.{Front}
use Rattle.front.specs.Sound.{front_in_range}
use Rattle.front_writes.specs.Writes.{side_written, register_written}
use Rattle.events.specs.declared.events.Event.{Event}
use Rattle.events.specs.declared.events.Event.TheVariants.{Read, Write}
use Rattle.front_events.specs.FrontEvents.{front_stepped}
use Rattle.chip_refusals.specs.Rows.{register_above15, forbidden_read, forbidden_command, write_not_modelled, setting_not_modelled}
use Rattle.chip_device.specs.declared.device.Device.{Device}
use Rattle.chip_device.specs.Device.{is_sound_of}
use Rattle.chip_step.specs.Chip.{step_of}
use Rattle.chip_laws.specs.Alone.{handed_after}
use Rattle.chip_laws.specs.Reset.{reset_at}
use Rattle.chip_laws.specs.Sound.{after}
use Rattle.chip_laws.proofs.Alone.{alone}
use Rattle.demands.specs.Chip.{Channel, register_of, and_then, over, chip_of, status_bit}
use Rattle.demands.specs.Chip.Channel.{A, B}
use Rattle.demands.specs.Clocks.{front_then, side_of}
use Rattle.demands.specs.Delivery.{character_errors, marks_shown, read_at, held_for, held}
use Rattle.demands.proofs.Laws.Bits.{bit_7, bit_6, bit_5, bit_4}
use Rattle.demands.proofs.Laws.Run.{run_at, run_append, run_then, run_sound, step_sound, front_from, receiver_at, step_receiver, status_byte, buffer_byte, buffer_fresh}
use Rattle.demands.proofs.Laws.Looks.{ready_bit}
use Rattle.demands.proofs.Laws.Feeds.{hands_to, hands}

-- ---- the status register ----

pub status_told : (levels : ℕ) (ch : Channel) (es : List Event)
    → (chip_of step_of levels es (Read (register_of ch 1))).byte
    ≡ status_register (status_of (receiver_at ch (run_at levels es)) (block_errors (side_of ch (run_at levels es).front)))
    (sender_shown (side_of ch (run_at levels es).front))
unfolding chip_of shown_of
status_told levels ch es = status_byte ch (run_at levels es) (run_sound levels es)

pub overrun_shown : (levels : ℕ) (ch : Channel) (es : List Event)
    → status_bit (chip_of step_of) levels ch es 4 ≡ (receiver_at ch (run_at levels es)).overrun
overrun_shown levels ch es = rw (status_told levels ch es) (bit_4 _ _ _ _ _ _ _ _)

-- ---- the marks, where MR1 is without block errors ----

-- a receiver that an event leaves
receiver_stays : (ch : Channel) (d : Device) (e : Event) → is_sound_of d ≡ true
    → ((r : Receiver) → (fed_of r (hands_to ch d.front e)).receiver ≡ r) → receiver_at ch (step_of d e).state ≡ receiver_at ch d
receiver_stays ch d e s k = step_receiver ch d e s ∙ rw (hands ch d.front e) (k (receiver_at ch d))

-- "1 pointer to MR1": a write there is no mode change
pointer_back : (ch : Channel) (d : Device) → is_sound_of d ≡ true → (side_of ch (step_of d (Write (register_of ch 2) 16)).state.front).moved ≡ false
unfolding handed_after register_above15 forbidden_read forbidden_command setting_not_modelled write_not_modelled front_stepped register_written side_written side_commanded pick
pointer_back A d s = rw (alone.front d (Write 2 16) s) (and-false d.front.a.moved)
pointer_back B d s = rw (alone.front d (Write 10 16) s) (and-false d.front.b.moved)

-- so do the command and the write of MR1
errors_receiver : (ch : Channel) (d : Device) → is_sound_of d ≡ true
    → receiver_at ch (after step_of d (Write (register_of ch 2) 16 ∷ Write (register_of ch 0) 19 ∷ [])) ≡ receiver_at ch d
unfolding after fed_of command_feed receiver_effect receiver_enabling effect_of enabling_of pick
errors_receiver A d s =
    receiver_stays A (step_of d (Write 2 16)).state (Write 0 19) (step_sound d _ s) (λ r. rw (pointer_back A d s))
    ∙ receiver_stays A d (Write 2 16) s (λ r. refl)
errors_receiver B d s =
    receiver_stays B (step_of d (Write 10 16)).state (Write 8 19) (step_sound d _ s) (λ r. rw (pointer_back B d s))
    ∙ receiver_stays B d (Write 10 16) s (λ r. refl)

-- and MR1 holds what was written, for the pointer was there
errors_mode : (ch : Channel) (f : Front) → (side_of ch (front_then (front_then f (Write (register_of ch 2) 16)) (Write (register_of ch 0) 19))).mr1 ≡ 19
unfolding handed_after register_above15 forbidden_read forbidden_command setting_not_modelled write_not_modelled front_stepped register_written side_written side_commanded mode_not_modelled mode_set mode_written pick
errors_mode A f = rw (and-false f.a.moved)
errors_mode B f = rw (and-false f.b.moved)

-- so "SR 7-5 show the oldest's marks"
marks_told : (levels : ℕ) (ch : Channel) (es : List Event)
    → (chip_of step_of levels (character_errors ch es) (Read (register_of ch 1))).byte
    ≡ status_register (status_of (receiver_at ch (run_at levels es)) false)
    (sender_shown (side_of ch (run_at levels (character_errors ch es)).front))
unfolding over
marks_told levels ch es = status_told levels ch (character_errors ch es) ∙ rw (receiver, mode)
  where
    receiver : receiver_at ch (run_at levels (character_errors ch es)) ≡ receiver_at ch (run_at levels es)
    receiver = rw (run_append (reset_at levels) es _) (errors_receiver ch (run_at levels es) (run_sound levels es))

    mode : (side_of ch (run_at levels (character_errors ch es)).front).mr1 ≡ 19
    mode = rw (run_append (reset_at levels) es _, front_from (run_at levels es) _ (run_sound levels es)) (errors_mode ch (run_at levels es).front)

marks_shown_lem : (levels : ℕ) (ch : Channel) (es : List Event)
    → marks_shown (chip_of step_of) levels ch es ≡ (status_of (receiver_at ch (run_at levels es)) false).marks
marks_shown_lem levels ch es = rw (marks_told levels ch es, bit_7, bit_6, bit_5)

-- ---- a read of the buffer ----

pub read_given : (levels : ℕ) (ch : Channel) (es : List Event)
    → read_at (chip_of step_of) levels ch es ≡ given fed_of status_of (receiver_at ch (run_at levels es)) Feeds.Read
unfolding chip_of given fed_of
read_given levels ch es =
    let s = run_sound levels es in
    rw (buffer_fresh ch (run_at levels es) s, marks_shown_lem levels ch es, buffer_byte ch (run_at levels es) s)

pub four_counted : (ch : Channel) (d : Device) → is_sound_of d ≡ true → (receiver_at ch d).queue.count ≤ 4
four_counted ch d s =
    let both = (and-eq-true_iff (receiver_sound d.a) _).0 ((and-eq-true_iff (front_in_range d.front) _).0 s).1 in
    go ch both.0 both.1
  where
    counted : (r : Receiver) → receiver_sound r ≡ true → r.queue.count ≤ 4
    counted r h =
        let ranges = ((and-eq-true_iff (receiver_in_range r) _).0 h).0 in
        leb-true r.queue.count 4 ((and-eq-true_iff (sampler_in_range r.sampler) _).0 ranges).1

    go : (ch : Channel) → receiver_sound d.a ≡ true → receiver_sound d.b ≡ true → (receiver_at ch d).queue.count ≤ 4
    go A a b = counted d.a a
    go B a b = counted d.b b

abbrev pub held_at : Channel → Device → List Character
held_at ch d = held_of (receiver_at ch d).queue

four_held : (ch : Channel) (d : Device) → is_sound_of d ≡ true → length (held_at ch d) ≤ 4
four_held ch d s = let four = four_counted ch d s in rw (held_length (receiver_at ch d).queue four) four

-- "A read takes the oldest"
pub read_taken : (ch : Channel) (d : Device) → is_sound_of d ≡ true → held_at ch (step_of d (Read (register_of ch 3))).state ≡ took (held_at ch d)
unfolding fed_of pick
read_taken A d s = rw (step_receiver A d (Read 3) s, hands A d.front (Read 3)) (read_held d.a (four_counted A d s))
read_taken B d s = rw (step_receiver B d (Read 11) s, hands B d.front (Read 11)) (read_held d.b (four_counted B d s))

-- ---- so many reads ----

taken_least : (h : List Character) (k : ℕ) → length h ≤ suc k → length (took h) ≤ k
taken_least [] k p = omega arith
taken_least (c ∷ h) k p = omega arith

no_more : (h : List Character) → length h ≤ 0 → h ≡ []
no_more [] p = refl
no_more (c ∷ h) p = absurd (omega arith)

-- after as many reads as are held the buffer is empty
emptied : (k : ℕ) (ch : Channel) (d : Device) → is_sound_of d ≡ true → length (held_at ch d) ≤ k
    → held_at ch (after step_of d (replicate k (Read (register_of ch 3)))) ≡ []
unfolding after
emptied zero ch d s p = no_more (held_at ch d) p
emptied (suc k) ch d s p =
    emptied k ch (step_of d (Read (register_of ch 3))).state (step_sound d _ s) (rw (read_taken ch d s) (taken_least (held_at ch d) k p))

pub four_empty : (levels : ℕ) (ch : Channel) (es : List Event)
    → status_bit (chip_of step_of) levels ch (es ++ replicate 4 (Read (register_of ch 3))) 0 ≡ false
four_empty levels ch es =
    let d : Device = run_at levels es in
    let none : held_at ch (run_at levels (es ++ replicate 4 (Read (register_of ch 3)))) ≡ [] =
    rw (run_append (reset_at levels) es _) (emptied 4 ch d (run_sound levels es) (four_held ch d (run_sound levels es))) in
    ready_bit levels ch _ ∙ rw ((is_empty_held _).1 none)

one_and_rest : (h : List Character) → take 1 h ++ took h ≡ h
one_and_rest [] = refl
one_and_rest (c ∷ h) = refl

held_for_lem : (k : ℕ) (levels : ℕ) (ch : Channel) (es : List Event) → length (held_at ch (run_at levels es)) ≤ k
    → held_for k (chip_of step_of) levels ch es ≡ held_at ch (run_at levels es)
unfolding held_for
held_for_lem zero levels ch es p = sym (no_more (held_at ch (run_at levels es)) p)
held_for_lem (suc k) levels ch es p =
    let d : Device = run_at levels es in
    let next : held_at ch (run_at levels (and_then es (Read (register_of ch 3)))) ≡ took (held_at ch d) =
    rw (run_then (reset_at levels) es (Read (register_of ch 3))) (read_taken ch d (run_sound levels es)) in
    let rest : held_for k (chip_of step_of) levels ch (and_then es (Read (register_of ch 3))) ≡ took (held_at ch d) =
    held_for_lem k levels ch (and_then es (Read (register_of ch 3))) (rw next (taken_least (held_at ch d) k p)) ∙ next in
    rw (rest, read_given levels ch es, given_held (receiver_at ch d)) (one_and_rest (held_at ch d))

pub held_queue : (levels : ℕ) (ch : Channel) (es : List Event) → held (chip_of step_of) levels ch es ≡ held_at ch (run_at levels es)
held_queue levels ch es = held_for_lem 4 levels ch es (four_held ch (run_at levels es) (run_sound levels es))
