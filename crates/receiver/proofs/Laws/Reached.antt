-- Every receiver reached from a chip reset is sound: one after a chip reset is, and every feed keeps it. Assumes nothing.
use mathlib.Core.Path.{◌≡◌, refl}
use mathlib.Core.Bool.{true, and-eq-true_iff}
use mathlib.Core.List.{List, [], ◌∷◌}
use Rattle.format.specs.Format.{format_of}
use Rattle.sampler.specs.Sound.{sampler_in_range}
use Rattle.queue.specs.Sound.{queue_in_range}
use Rattle.receiver_state.specs.declared.arrivals.Receiver.{Receiver}
use Rattle.receiver_state.specs.Arrivals.{fresh_receiver}
use Rattle.feed.specs.declared.feed.Feed.{Feed}
use Rattle.feed.specs.declared.feed.Feed.TheVariants.{ChipReset}
use Rattle.receiver.specs.Receiver.{fed_of}
use Rattle.receiver.specs.Delivery.{after}
use Rattle.receiver.specs.Sound.{feeds_in_range, Sound, KeepsSound}
use Rattle.feed.specs.Ranges.{feed_in_range}
use Rattle.receiver.proofs.Laws.Ranges.{ranges_kept}
use Rattle.receiver.proofs.Laws.Waiting.{waiting_kept}

fresh_sound : Sound fresh_receiver
unfolding format_of
fresh_sound = record { ranges = refl; waiting = refl }

pub sound_fed : KeepsSound fed_of
sound_fed r e s h =
    let count : queue_in_range r.queue ≡ true = ((and-eq-true_iff (sampler_in_range r.sampler) _).0 s.ranges).1 in
    record { ranges = ranges_kept r e s.ranges h; waiting = (waiting_kept r e count s.waiting).1 }

sound_after : (r : Receiver) (es : List Feed) → Sound r → feeds_in_range es ≡ true → Sound (after fed_of r es)
unfolding after
sound_after r [] s h = s
sound_after r (e ∷ es) s h =
    let both = (and-eq-true_iff (feed_in_range e) (feeds_in_range es)).0 h in
    sound_after (fed_of r e).receiver es (sound_fed r e s both.0) both.1

pub reached_sound : (r : Receiver) (es : List Feed) → feeds_in_range es ≡ true → Sound (after fed_of (fed_of r ChipReset).receiver es)
unfolding fed_of
reached_sound r es h = sound_after fresh_receiver es fresh_sound h
