-- "Sound means no more than this: fields in ranges listed in docs/ that hold every value a rule here can put there, ..
-- and the waiting place used only with three characters held and no confirmed start under way." docs/SOUND.md lists the
-- same ranges. A byte, a mark and a flag may be any of their type. Assumes nothing.
use Rattle.std.specs.Prelude.{◌≡◌, List, [], ◌∷◌, Bool, true, not, ◌&&◌, ◌||◌, eqb}
use Rattle.sampler.specs.Sound.{sampler_in_range}
use Rattle.feed.specs.Ranges.{feed_in_range}
use Rattle.queue.specs.Queue.{waits_of}
use Rattle.queue.specs.Sound.{queue_in_range}
use Rattle.receiver_state.specs.declared.arrivals.Receiver.{Receiver}
use Rattle.feed.specs.declared.feed.Feed.{Feed}
use Rattle.receiver.specs.Delivery.{Step}

abbrev pub receiver_in_range : Receiver → Bool
receiver_in_range r = sampler_in_range r.sampler && queue_in_range r.queue

-- "the waiting place used only with three characters held and no confirmed start under way": the layout counts the
-- waiting one as the fourth, so that three are held with it; phase 2 is a confirmed start under way
abbrev pub waiting_sound : Receiver → Bool
waiting_sound r = not (waits_of r.queue) || not (eqb r.sampler.phase 2)

-- "Every state reached from a chip reset is sound.", said of one receiver: after any feeds that are in range
abbrev pub feeds_in_range : List Feed → Bool
feeds_in_range [] = true
feeds_in_range (e ∷ es) = feed_in_range e && feeds_in_range es

pub record Sound (r : Receiver) : Type 0 where
  pub ranges : receiver_in_range r ≡ true
  pub waiting : waiting_sound r ≡ true

-- a way to take a feed that keeps a receiver sound
abbrev pub KeepsSound : Step → Type 0
KeepsSound step = (r : Receiver) (e : Feed) → Sound r → feed_in_range e ≡ true → Sound (step r e).receiver
