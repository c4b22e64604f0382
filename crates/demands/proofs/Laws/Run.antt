-- The chip's run and the front's run alone: a sound device stays sound, its front is the front run alone, and each receiver has taken what that
-- front handed to it. A read that no row refuses answers what the state before it shows. Assumes nothing.
use Prim.Native.Nat.{ℕ, ◌≤◌}
use mathlib.Core.Path.{◌≡◌, refl, ◌∙◌, ap}
use mathlib.Core.Bool.{Bool, true, false, ◌||◌, true≢false}
use mathlib.Core.List.{List, [], ◌∷◌, ◌++◌}
use native.Mathlib.Omega.{arith}
use lib.Dec.{eqb}
use borrow.Author.Tests.{le-ltb}
use Rattle.format.specs.Format.{format_of}
use Rattle.format.specs.Pick.{pick}
use Rattle.receiver_state.specs.declared.arrivals.Receiver.{Receiver}
use Rattle.feed.specs.declared.feed.Feed.{Feed}
use Rattle.receiver.specs.Receiver.{read_of, fed_of}
use Rattle.receiver.specs.Delivery as Receivers
use Rattle.chip_shown.specs.Shown.{channel_shown}
use Rattle.front.specs.declared.front.Front.{Front}
use Rattle.front.specs.declared.front.Handed.{Handed}
use Rattle.front.proofs.Laws.Ranges.{front_shown, front_at_within}
use Rattle.front_reads.specs.Reads.{side_read, register_read, front_data}
use Rattle.events.specs.declared.events.Event.{Event}
use Rattle.events.specs.declared.events.Event.TheVariants.{Read}
use Rattle.front_events.specs.FrontEvents.{front_stepped}
use Rattle.chip_answers.specs.Answers.{isr_of, register_data, event_data, register_fresh, event_fresh}
use Rattle.chip_device.specs.declared.device.Device.{Device}
use Rattle.chip_device.specs.Device.{is_sound_of, shown_a, shown_b}
use Rattle.chip_refusals.specs.Rows.{register_above15, forbidden_read, forbidden_command, setting_not_modelled, acknowledged_unasserted}
use Rattle.chip_refusals.specs.Refusals.{first_of}
use Rattle.chip_step.specs.declared.chip.Answer.{Answer}
use Rattle.chip_step.specs.Chip.{taken_of, accepted_of, step_of}
use Rattle.chip_step.proofs.Laws.Table.{accepts}
use Rattle.chip_laws.specs.Alone.{handed_after}
use Rattle.chip_laws.specs.Reset.{reset_at}
use Rattle.chip_laws.specs.Sound.{after}
use Rattle.chip_laws.proofs.Alone.{alone}
use Rattle.chip_laws.proofs.Quiet.{quiet}
use Rattle.chip_laws.proofs.Sound.{keeps_sound, stays_sound}
use Rattle.demands.specs.Chip.{Channel, of_channel, register_of, and_then, over}
use Rattle.demands.specs.Chip.Channel.{A, B}
use Rattle.demands.specs.Clocks.{front_then, front_after, side_of}

-- ---- the run ----

-- the device after a chip reset with these levels on its pins and then these events
abbrev pub run_at : ℕ → List Event → Device
run_at levels es = after step_of (reset_at levels) es

pub run_append : (d : Device) (es fs : List Event) → after step_of d (es ++ fs) ≡ after step_of (after step_of d es) fs
unfolding after
run_append d [] fs = refl
run_append d (e ∷ es) fs = run_append (step_of d e).state es fs

pub run_then : (d : Device) (es : List Event) (e : Event) → after step_of d (and_then es e) ≡ (step_of (after step_of d es) e).state
unfolding after
run_then d es e = run_append d es (e ∷ [])

pub reset_sound : (levels : ℕ) → is_sound_of (reset_at levels) ≡ true
unfolding format_of
reset_sound levels = rw (front_shown _ (front_at_within levels))

pub run_sound : (levels : ℕ) (es : List Event) → is_sound_of (run_at levels es) ≡ true
run_sound levels es = stays_sound (reset_at levels) es (reset_sound levels)

pub step_sound : (d : Device) (e : Event) → is_sound_of d ≡ true → is_sound_of (step_of d e).state ≡ true
unfolding after
step_sound d e s = stays_sound d (e ∷ []) s

-- ---- the front ----

pub front_from : (d : Device) (es : List Event) → is_sound_of d ≡ true → (after step_of d es).front ≡ over front_then d.front es
unfolding after over
front_from d [] s = refl
front_from d (e ∷ es) s = rw (← alone.front d e s) (front_from (step_of d e).state es (step_sound d e s))

pub run_front : (levels : ℕ) (es : List Event) → (run_at levels es).front ≡ front_after levels es
run_front levels es = front_from (reset_at levels) es (reset_sound levels)

-- ---- a channel's receiver ----

abbrev pub receiver_at : Channel → Device → Receiver
receiver_at ch d = of_channel ch d.a d.b

abbrev pub feed_of : Channel → Handed → Feed
feed_of ch h = of_channel ch h.a h.b

-- what the front, run alone, hands to it
unfoldable pub feeds_from : Channel → Front → List Event → List Feed
feeds_from ch f [] = []
feeds_from ch f (e ∷ es) = feed_of ch (handed_after f e) ∷ feeds_from ch (front_then f e) es

pub step_receiver : (ch : Channel) (d : Device) (e : Event) → is_sound_of d ≡ true
    → receiver_at ch (step_of d e).state ≡ (fed_of (receiver_at ch d) (feed_of ch (handed_after d.front e))).receiver
step_receiver A d e s = alone.a d e s
step_receiver B d e s = alone.b d e s

pub run_receiver : (ch : Channel) (d : Device) (es : List Event) → is_sound_of d ≡ true
    → receiver_at ch (after step_of d es) ≡ Receivers.after fed_of (receiver_at ch d) (feeds_from ch d.front es)
unfolding after Receivers.after feeds_from
run_receiver ch d [] s = refl
run_receiver ch d (e ∷ es) s =
    rw (← alone.front d e s, ← step_receiver ch d e s) (run_receiver ch (step_of d e).state es (step_sound d e s))

-- ---- what a read answers ----

pub read_accepted : (d : Device) (n : ℕ) → is_sound_of d ≡ true → n ≤ 15 → (eqb n 2 || eqb n 10) ≡ false
    → step_of d (Read n) ≡ accepted_of (taken_of d (Read n))
unfolding first_of register_above15 forbidden_read forbidden_command setting_not_modelled acknowledged_unasserted pick
read_accepted d n s most k = accepts d (Read n) free (keeps_sound d (Read n) s free)
  where
    free : first_of d (Read n) 0 ≡ 0
    free = rw (s, le-ltb 15 n most, k)

-- the data byte of any of them
pub read_byte : (d : Device) (n : ℕ) → is_sound_of d ≡ true → n ≤ 15 → (eqb n 2 || eqb n 10) ≡ false
    → (step_of d (Read n)).byte
    ≡ register_data d.front (shown_a d) (shown_b d) (fed_of d.a (register_read d.front n).a).byte
    (fed_of d.b (register_read d.front n).b).byte n
unfolding taken_of event_data front_stepped
read_byte d n s most k = ap (λ (x : Answer). x.byte) (read_accepted d n s most k)

pub status_byte : (ch : Channel) (d : Device) → is_sound_of d ≡ true
    → (step_of d (Read (register_of ch 1))).byte ≡ (channel_shown (side_of ch d.front) (receiver_at ch d)).status
unfolding register_data pick
status_byte A d s = read_byte d 1 s (omega arith) refl
status_byte B d s = read_byte d 9 s (omega arith) refl

pub buffer_byte : (ch : Channel) (d : Device) → is_sound_of d ≡ true
    → (step_of d (Read (register_of ch 3))).byte ≡ (read_of (receiver_at ch d)).byte
unfolding register_data register_read side_read fed_of pick
buffer_byte A d s = read_byte d 3 s (omega arith) refl
buffer_byte B d s = read_byte d 11 s (omega arith) refl

-- order 1: and whether it says fresh is the receiver's
read_flag : (d : Device) (n : ℕ) → is_sound_of d ≡ true → n ≤ 15 → (eqb n 2 || eqb n 10) ≡ false
    → (step_of d (Read n)).fresh
    ≡ register_fresh (fed_of d.a (register_read d.front n).a).fresh (fed_of d.b (register_read d.front n).b).fresh n
unfolding taken_of event_fresh front_stepped
read_flag d n s most k = ap (λ (x : Answer). x.fresh) (read_accepted d n s most k)

pub buffer_fresh : (ch : Channel) (d : Device) → is_sound_of d ≡ true
    → (step_of d (Read (register_of ch 3))).fresh ≡ (read_of (receiver_at ch d)).fresh
unfolding register_fresh register_read side_read fed_of pick
buffer_fresh A d s = read_flag d 3 s (omega arith) refl
buffer_fresh B d s = read_flag d 11 s (omega arith) refl

pub interrupt_byte : (d : Device) → is_sound_of d ≡ true → (step_of d (Read 5)).byte ≡ isr_of d.front (shown_a d) (shown_b d)
unfolding register_data pick
interrupt_byte d s = read_byte d 5 s (omega arith) refl

either_false : (s t : Bool) → (s || t) ≡ false → (s ≡ false) × (t ≡ false)
either_false true t h = absurd (true≢false h)
either_false false t h = (refl, h)

-- the registers that show something of a receiver
abbrev pub shows_receivers : ℕ → Bool
shows_receivers n = (eqb n 1 || eqb n 3) || (eqb n 5 || (eqb n 9 || eqb n 11))

-- any other one shows the front alone
pub front_byte : (d : Device) (n : ℕ) → is_sound_of d ≡ true → n ≤ 15 → (eqb n 2 || eqb n 10) ≡ false → shows_receivers n ≡ false
    → (step_of d (Read n)).byte ≡ front_data d.front n
unfolding register_data pick
front_byte d n s most k h =
    let halves = either_false (eqb n 1 || eqb n 3) _ h in
    let low = either_false (eqb n 1) _ halves.0 in
    let high = either_false (eqb n 5) _ halves.1 in
    let highest = either_false (eqb n 9) _ high.1 in
    read_byte d n s most k ∙ rw (low.0, low.1, high.0, highest.0, highest.1)

-- a status read changes nothing
pub status_quiet : (ch : Channel) (d : Device) → (step_of d (Read (register_of ch 1))).state ≡ d
status_quiet A d = quiet.read d 1 refl
status_quiet B d = quiet.read d 9 refl
