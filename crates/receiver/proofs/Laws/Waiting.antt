-- The waiting place is used only while no confirmed start is under way: three are held at most at phase 2, else four. For a confirmed start
-- cuts to three, and an arrival comes out of phase 2 alone, and leaves it. Assumes nothing.
use Prim.Native.Nat.{◌≤◌, ◌<◌}
use mathlib.Core.Path.{◌≡◌, refl}
use mathlib.Core.Bool.{Bool, true, false, not, ◌||◌, or-true, or-false}
use native.Mathlib.Omega.{arith}
use lib.Dec.{eqb, leb}
use borrow.Author.Tests.{le-leb, leb-true, leb-false, lt-leb, not-true}
use Rattle.format.specs.Pick.{pick}
use Rattle.format.proofs.Laws.Pick.{pick_all}
use Rattle.std.specs.Prelude.{Option, None, Some}
use Rattle.character.specs.declared.character.Character.{Character}
use Rattle.sampler_hunting.specs.declared.hunting.Sampled.{Sampled}
use Rattle.sampler.specs.Sampler.{sample_of}
use Rattle.sampler.proofs.Laws.Room.{most, most_four, cut, grown, Roomy, room_sample}
use Rattle.queue.specs.Queue.{is_empty_of}
use Rattle.queue.specs.Sound.{queue_in_range}
use Rattle.queue.proofs.Laws.Queue.{put_count, without_waiting_count, took_count}
use Rattle.receiver_state.specs.declared.arrivals.Receiver.{Receiver}
use Rattle.receiver_state.specs.Arrivals.{answered_of, heard_of, started_of, entered_of, arrived_of, pulsed_of}
use Rattle.feed.specs.declared.feed.Effect.{Effect}
use Rattle.feed.specs.declared.feed.Effect.TheVariants.{NoEffect, Reset, ClearErrors, ClearBreakChange}
use Rattle.feed.specs.declared.feed.Enabling.{Enabling}
use Rattle.feed.specs.declared.feed.Enabling.TheVariants.{Stays, Enables, Disables}
use Rattle.receiver_commands.specs.Commands.{effect_of, enabling_of}
use Rattle.receiver.specs.declared.receiver.Fed.{Fed}
use Rattle.feed.specs.declared.feed.Feed.{Feed}
use Rattle.feed.specs.declared.feed.Feed.TheVariants.{Nothing, Pulse, Command, Read, ChipReset}
use Rattle.receiver.specs.Receiver.{oldest_read, read_of, fed_of}
use Rattle.receiver.specs.Sound.{waiting_sound}

-- ---- the receiver ----

abbrev pub Room : Receiver → Type 0
Room r = r.queue.count ≤ most r.sampler

pub answered_sampler : (r : Receiver) (m : Sampled) → (answered_of r m).sampler ≡ m.next
unfolding arrived_of entered_of started_of pick
answered_sampler r m = go m.started m.came
  where
    go : (t : Bool) (o : Option Character) → (arrived_of (started_of (heard_of r m.next m.change) t) o).sampler ≡ m.next
    go true None = refl
    go true (Some c) = refl
    go false None = refl
    go false (Some c) = refl

pub started_count : (r : Receiver) (t : Bool) → (started_of r t).queue.count ≡ cut t r.queue.count
unfolding started_of pick
started_count r true = without_waiting_count r.queue
started_count r false = refl

arrived_count : (r : Receiver) (o : Option Character) → grown o r.queue.count ≤ 4 → (arrived_of r o).queue.count ≡ grown o r.queue.count
unfolding arrived_of entered_of
arrived_count r None h = refl
arrived_count r (Some c) h = put_count r.queue c (omega arith)

answered_room : (r : Receiver) (m : Sampled) → Roomy r.queue.count m → Room (answered_of r m)
answered_room r m h =
    let n : Receiver = started_of (heard_of r m.next m.change) m.started in
    let four : grown m.came n.queue.count ≤ 4 = rw started_count (omega (arith, most_four m.next)) in
    rw (answered_sampler r m, arrived_count n m.came four, started_count) h

effect_room : (r : Receiver) (e : Effect) → Room r → Room (effect_of r e)
unfolding effect_of
effect_room r NoEffect h = h
effect_room r Reset h = omega arith
effect_room r ClearErrors h = h
effect_room r ClearBreakChange h = h

enabling_room : (r : Receiver) (t : Enabling) → Room r → Room (enabling_of r t)
unfolding enabling_of pick
enabling_room r Stays h = h
enabling_room r Enables h = omega (arith, most_four r.sampler)
enabling_room r Disables h = omega (arith, most_four r.sampler)

read_room : (r : Receiver) → Room r → Room (read_of r).receiver
unfolding read_of oldest_read
read_room r h = pick_all (λ (d : Fed). Room d.receiver) (is_empty_of r.queue) _ _ h (took_count r.queue _ h)

pub fed_room : (r : Receiver) (e : Feed) → Room r → Room (fed_of r e).receiver
unfolding fed_of pulsed_of
fed_room r Nothing h = h
fed_room r (Pulse level f) h = answered_room r (sample_of r.sampler level f) (room_sample r.queue.count r.sampler level f h)
fed_room r (Command e t) h = enabling_room (effect_of r e) t (effect_room r e h)
fed_room r Read h = read_room r h
fed_room r ChipReset h = omega arith

-- ---- as soundness states it ----

pub sound_room : (r : Receiver) → queue_in_range r.queue ≡ true → waiting_sound r ≡ true → Room r
unfolding pick
sound_room r q w = go (eqb r.sampler.phase 2) w
  where
    go : (t : Bool) → (not (leb 4 r.queue.count) || not t) ≡ true → r.queue.count ≤ pick t 3 4
    go true w =
        let less : r.queue.count < 4 = leb-false 4 r.queue.count (not-true _ (rw or-false at w)) in
        omega arith
    go false w = leb-true r.queue.count 4 q

room_range : (r : Receiver) → Room r → queue_in_range r.queue ≡ true
room_range r h = le-leb r.queue.count 4 (omega (arith, most_four r.sampler))

room_waiting : (r : Receiver) → Room r → waiting_sound r ≡ true
unfolding pick
room_waiting r h = go (eqb r.sampler.phase 2) h
  where
    go : (t : Bool) → r.queue.count ≤ pick t 3 4 → (not (leb 4 r.queue.count) || not t) ≡ true
    go true h = rw (lt-leb 4 r.queue.count (omega arith))
    go false h = or-true (not (leb 4 r.queue.count))

-- Any feed keeps the count in range and the waiting place free while a confirmed start is under way.
pub waiting_kept : (r : Receiver) (e : Feed) → queue_in_range r.queue ≡ true → waiting_sound r ≡ true
    → (queue_in_range (fed_of r e).receiver.queue ≡ true) × (waiting_sound (fed_of r e).receiver ≡ true)
waiting_kept r e q w =
    let h : Room (fed_of r e).receiver = fed_room r e (sound_room r q w) in
    (room_range (fed_of r e).receiver h, room_waiting (fed_of r e).receiver h)
