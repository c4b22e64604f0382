-- Every feed keeps every field of a receiver in its range, on every receiver in range, reached or not: the sampler's by its own law,
-- the queue's count by each of its rules. Assumes nothing.
use Prim.Native.Nat.{◌≤◌}
use mathlib.Core.Path.{◌≡◌}
use mathlib.Core.Bool.{Bool, true, false, and-eq-true_iff}
use native.Mathlib.Omega.{arith}
use borrow.Author.Tests.{leb-true, le-leb}
use Rattle.format.proofs.Laws.Pick.{pick_all}
use Rattle.feed.specs.declared.feed.Setting.{Setting}
use Rattle.std.specs.Prelude.{Option, None, Some}
use Rattle.character.specs.declared.character.Character.{Character}
use Rattle.sampler_hunting.specs.declared.hunting.Sampled.{Sampled}
use Rattle.sampler.specs.Sampler.{sample_of}
use Rattle.sampler.specs.Sound.{sampler_in_range}
use Rattle.feed.specs.Ranges.{setting_in_range}
use Rattle.sampler.proofs.Laws.Ranges.{sample_keeps, hunting_keeps}
use Rattle.queue.specs.Queue.{is_empty_of}
use Rattle.queue.proofs.Laws.Queue.{put_four, without_waiting_count, took_count}
use Rattle.receiver_state.specs.declared.arrivals.Receiver.{Receiver}
use Rattle.receiver_state.specs.Arrivals.{heard_of, started_of, entered_of, arrived_of, pulsed_of}
use Rattle.feed.specs.declared.feed.Effect.{Effect}
use Rattle.feed.specs.declared.feed.Effect.TheVariants.{NoEffect, Reset, ClearErrors, ClearBreakChange}
use Rattle.feed.specs.declared.feed.Enabling.{Enabling}
use Rattle.feed.specs.declared.feed.Enabling.TheVariants.{Stays, Enables, Disables}
use Rattle.receiver_commands.specs.Commands.{effect_of, enabling_of}
use Rattle.receiver.specs.declared.receiver.Fed.{Fed}
use Rattle.feed.specs.declared.feed.Feed.{Feed}
use Rattle.feed.specs.declared.feed.Feed.TheVariants.{Nothing, Pulse, Command, Read, ChipReset}
use Rattle.receiver.specs.Receiver.{oldest_read, read_of, fed_of}
use Rattle.receiver.specs.Sound.{receiver_in_range}
use Rattle.feed.specs.Ranges.{feed_in_range}

record Inside (r : Receiver) : Type 0 where
  sampler : sampler_in_range r.sampler ≡ true
  queue : r.queue.count ≤ 4

started_inside : (r : Receiver) (t : Bool) → Inside r → Inside (started_of r t)
unfolding started_of
started_inside r t h = pick_all Inside t _ _ (record { sampler = h.sampler; queue = rw (without_waiting_count r.queue) (omega arith) }) h

arrived_inside : (r : Receiver) (o : Option Character) → Inside r → Inside (arrived_of r o)
unfolding arrived_of entered_of
arrived_inside r None h = h
arrived_inside r (Some c) h = record { sampler = h.sampler; queue = put_four r.queue c }

pulsed_inside : (r : Receiver) (level : Bool) (f : Setting) → Inside r → setting_in_range f ≡ true → Inside (pulsed_of r level f)
unfolding pulsed_of
pulsed_inside r level f h k =
    let m : Sampled = sample_of r.sampler level f in
    arrived_inside _ m.came
    (started_inside (heard_of r m.next m.change) m.started (record { sampler = sample_keeps r.sampler level f h.sampler k; queue = h.queue }))

effect_inside : (r : Receiver) (e : Effect) → Inside r → Inside (effect_of r e)
unfolding effect_of
effect_inside r NoEffect h = h
effect_inside r Reset h = record { sampler = hunting_keeps false; queue = omega arith }
effect_inside r ClearErrors h = record { sampler = h.sampler; queue = h.queue }
effect_inside r ClearBreakChange h = record { sampler = h.sampler; queue = h.queue }

enabling_inside : (r : Receiver) (t : Enabling) → Inside r → Inside (enabling_of r t)
unfolding enabling_of
enabling_inside r Stays h = h
enabling_inside r Enables h = record { sampler = hunting_keeps false; queue = h.queue }
enabling_inside r Disables h = record { sampler = hunting_keeps false; queue = h.queue }

read_inside : (r : Receiver) → Inside r → Inside (read_of r).receiver
unfolding read_of oldest_read
read_inside r h =
    pick_all (λ (n : Fed). Inside n.receiver) (is_empty_of r.queue) _ _ h (record { sampler = h.sampler; queue = took_count r.queue 4 h.queue })

fed_inside : (r : Receiver) (e : Feed) → Inside r → feed_in_range e ≡ true → Inside (fed_of r e).receiver
unfolding fed_of
fed_inside r Nothing h k = h
fed_inside r (Pulse level f) h k = pulsed_inside r level f h k
fed_inside r (Command e t) h k = enabling_inside (effect_of r e) t (effect_inside r e h)
fed_inside r Read h k = read_inside r h
fed_inside r ChipReset h k = record { sampler = hunting_keeps false; queue = omega arith }

-- ---- the tests of specs/Sound ----

told : (r : Receiver) → receiver_in_range r ≡ true → Inside r
told r e =
    let a = (and-eq-true_iff (sampler_in_range r.sampler) _).0 e in
    record { sampler = a.0; queue = leb-true r.queue.count 4 a.1 }

shown : (r : Receiver) → Inside r → receiver_in_range r ≡ true
shown r h = rw (h.sampler, le-leb _ _ h.queue)

pub ranges_kept : (r : Receiver) (e : Feed) → receiver_in_range r ≡ true → feed_in_range e ≡ true → receiver_in_range (fed_of r e).receiver ≡ true
ranges_kept r e h k = shown (fed_of r e).receiver (fed_inside r e (told r h) k)
