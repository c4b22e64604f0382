-- A receiver that holds a list does what the laid-out receiver does to the list that it means: feed by feed from the laws of the queue, where
-- there is room for every arrival, and so for every sound receiver. Assumes nothing.
use Prim.Native.Nat.{◌≤◌}
use mathlib.Core.Path.{◌≡◌, refl, ◌∙◌, ap}
use mathlib.Core.Bool.{Bool, true, false}
use native.Mathlib.Omega.{arith}
use Rattle.format.specs.Pick.{pick}
use Rattle.character.specs.declared.character.Character.{Character}
use Rattle.character.specs.declared.character.Marks.{Marks}
use Rattle.character.specs.Character.{or_marks}
use Rattle.std.specs.Prelude.{Option, None, Some}
use Rattle.sampler_hunting.specs.declared.hunting.Sampled.{Sampled}
use Rattle.sampler.specs.Sampler.{sample_of}
use Rattle.sampler.proofs.Laws.Room.{most_four, grown, Roomy, room_sample}
use Rattle.queue.specs.declared.queue.Queue.{Queue}
use Rattle.queue.specs.Queue.{held_of, is_empty_of, took_of, top_marks}
use Rattle.queue.proofs.Laws.Queue.{held_length, held_put, held_without_waiting, held_took, held_empty, is_empty_held, oldest_held, held_marks, held_unmarked}
use Rattle.receiver_state.specs.declared.arrivals.Receiver.{Receiver}
use Rattle.receiver_state.specs.Arrivals.{oldest_marks, answered_of, heard_of, started_of, entered_of, arrived_of, pulsed_of}
use Rattle.feed.specs.declared.feed.Effect.{Effect}
use Rattle.feed.specs.declared.feed.Effect.TheVariants.{NoEffect, Reset, ClearErrors, ClearBreakChange}
use Rattle.feed.specs.declared.feed.Enabling.{Enabling}
use Rattle.feed.specs.declared.feed.Enabling.TheVariants.{Stays, Enables, Disables}
use Rattle.receiver_commands.specs.Commands.{effect_of, enabling_of}
use Rattle.receiver_status.specs.Status.{shown_marks, status_of}
use Rattle.receiver.specs.declared.receiver.Fed.{Fed}
use Rattle.feed.specs.declared.feed.Feed.{Feed}
use Rattle.feed.specs.declared.feed.Feed.TheVariants as Feeds
use Rattle.receiver.specs.Receiver.{oldest_read, read_of, fed_of}
use Rattle.receiver.proofs.Laws.Waiting.{Room, started_count}
use Rattle.chip_soundness.specs.Soundness.{receiver_sound}
use Rattle.chip_laws.specs.Lists.{ListFed, list_started, summed, list_arrived, list_answered, list_effect, list_enabling, list_read, list_fed_of, list_status, list_sound, list_of}

-- ---- the oldest ----

marks_held : (q : Queue) → oldest_marks q ≡ top_marks (held_of q)
unfolding oldest_marks pick
marks_held q = held_marks q

summed_held : (q : Queue) (sums : Marks) (c : Character) → pick (is_empty_of q) (or_marks sums c.marks) sums ≡ summed (held_of q) sums c
unfolding summed pick
summed_held q sums c = go (is_empty_of q) refl
  where
    go : (t : Bool) → is_empty_of q ≡ t → pick t (or_marks sums c.marks) sums ≡ summed (held_of q) sums c
    go true e = rw ((is_empty_held q).0 e)
    go false e = rw (oldest_held q e)

-- ---- what is seen of a receiver ----

pub status_held : (r : Receiver) (block : Bool) → r.queue.count ≤ 4 → list_status (list_of r) block ≡ status_of r block
unfolding shown_marks
status_held r block h = rw (held_length r.queue h, marks_held r.queue)

pub sound_held : (r : Receiver) → r.queue.count ≤ 4 → list_sound (list_of r) ≡ receiver_sound r
sound_held r h = rw (held_length r.queue h)

-- ---- a pulse ----

started_held : (r : Receiver) (t : Bool) → r.queue.count ≤ 4 → list_started (list_of r) t ≡ list_of (started_of r t)
unfolding list_started started_of pick
started_held r true h = rw (held_length r.queue h, held_without_waiting r.queue h)
started_held r false h = refl

arrived_held : (r : Receiver) (o : Option Character) → grown o r.queue.count ≤ 4 → list_arrived (list_of r) o ≡ list_of (arrived_of r o)
unfolding list_arrived arrived_of entered_of
arrived_held r None h = refl
arrived_held r (Some c) h = rw (held_put r.queue c (omega arith), summed_held r.queue)

answered_held : (r : Receiver) (m : Sampled) → r.queue.count ≤ 4 → Roomy r.queue.count m → list_answered (list_of r) m ≡ list_of (answered_of r m)
unfolding list_answered
answered_held r m four h =
    let n : Receiver = heard_of r m.next m.change in
    let room : grown m.came (started_of n m.started).queue.count ≤ 4 = rw started_count (omega (arith, most_four m.next)) in
    rw (started_held n m.started four) (arrived_held (started_of n m.started) m.came room)

-- ---- a command ----

effect_held : (r : Receiver) (e : Effect) → list_effect (list_of r) e ≡ list_of (effect_of r e)
unfolding list_effect effect_of
effect_held r NoEffect = refl
effect_held r Reset = rw held_empty
effect_held r ClearErrors = rw (held_unmarked r.queue)
effect_held r ClearBreakChange = refl

enabling_held : (r : Receiver) (t : Enabling) → list_enabling (list_of r) t ≡ list_of (enabling_of r t)
unfolding list_enabling enabling_of
enabling_held r Stays = refl
enabling_held r Enables = refl
enabling_held r Disables = refl

-- ---- any feed ----

-- the list of what a feed leaves, beside the byte that it answers
abbrev pub fed_list : Fed → ListFed
fed_list d = record { receiver = list_of d.receiver; byte = d.byte; fresh = d.fresh }

read_held : (r : Receiver) → r.queue.count ≤ 4 → list_read (list_of r) (held_of r.queue) ≡ fed_list (read_of r)
unfolding list_read read_of oldest_read pick
read_held r h = go (is_empty_of r.queue) refl
  where
    go : (t : Bool) → is_empty_of r.queue ≡ t → list_read (list_of r) (held_of r.queue) ≡ fed_list (read_of r)
    go true e = rw (e, (is_empty_held r.queue).0 e)
    go false e = ap (list_read (list_of r)) (oldest_held r.queue e) ∙ rw (e, marks_held (took_of r.queue), held_took r.queue h)

pub fed_held : (r : Receiver) (e : Feed) → Room r → list_fed_of (list_of r) e ≡ fed_list (fed_of r e)
unfolding list_fed_of fed_of pulsed_of
fed_held r Feeds.Nothing h = refl
fed_held r (Feeds.Pulse level f) h =
    let four : r.queue.count ≤ 4 = omega (arith, most_four r.sampler) in
    rw (answered_held r (sample_of r.sampler level f) four (room_sample r.queue.count r.sampler level f h))
fed_held r (Feeds.Command e t) h = rw (effect_held r e, enabling_held (effect_of r e) t)
fed_held r Feeds.Read h = read_held r (omega (arith, most_four r.sampler))
fed_held r Feeds.ChipReset h = rw held_empty
