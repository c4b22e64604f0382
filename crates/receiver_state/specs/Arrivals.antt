-- One receiver: sampler and queue side by side, and what a pulse does to it. Assumes nothing.
use Rattle.std.specs.Prelude.{ℕ, Bool, false, ◌||◌, Option, None, Some}
use Rattle.format.specs.Pick.{pick}
use Rattle.character.specs.declared.character.Character.{Character}
use Rattle.character.specs.declared.character.Marks.{Marks}
use Rattle.character.specs.Character.{no_marks, or_marks}
use Rattle.sampler_state.specs.declared.state.Sampler.{Sampler}
use Rattle.feed.specs.declared.feed.Setting.{Setting}
use Rattle.sampler_state.specs.State.{hunting}
use Rattle.sampler_hunting.specs.declared.hunting.Sampled.{Sampled}
use Rattle.sampler.specs.Sampler.{sample_of}
use Rattle.queue.specs.declared.queue.Queue.{Queue}
use Rattle.queue.specs.Queue.{empty_queue, is_empty_of, oldest_of, waits_of, put_of, without_waiting_of}
use Rattle.receiver_state.specs.declared.arrivals.Receiver.{Receiver}

-- "Chip reset: .. every .. flag, mark, last byte read .. 0, .. queues, waiting .. places, .. assembly empty"
abbrev pub fresh_receiver : Receiver
fresh_receiver =
    record { sampler = hunting false; queue = empty_queue; overrun = false; sums = no_marks; change = false; last = 0 }

-- "Character errors: SR 7-5 show the oldest's marks, 0 if none."
unfoldable pub oldest_marks : Queue → Marks
oldest_marks q = pick (is_empty_of q) no_marks (oldest_of q).marks

-- ---- a receiver with another part ----

abbrev pub with_sampler : Receiver → Sampler → Receiver
with_sampler r x =
    record { sampler = x; queue = r.queue; overrun = r.overrun; sums = r.sums; change = r.change; last = r.last }

abbrev pub with_queue : Receiver → Queue → Receiver
with_queue r x =
    record { sampler = r.sampler; queue = x; overrun = r.overrun; sums = r.sums; change = r.change; last = r.last }

abbrev pub with_overrun : Receiver → Bool → Receiver
with_overrun r x =
    record { sampler = r.sampler; queue = r.queue; overrun = x; sums = r.sums; change = r.change; last = r.last }

abbrev pub with_sums : Receiver → Marks → Receiver
with_sums r x =
    record {
      sampler = r.sampler;
      queue = r.queue;
      overrun = r.overrun;
      sums = x;
      change = r.change;
      last = r.last;
    }

abbrev pub with_change : Receiver → Bool → Receiver
with_change r x =
    record { sampler = r.sampler; queue = r.queue; overrun = r.overrun; sums = r.sums; change = x; last = r.last }

abbrev pub with_last : Receiver → ℕ → Receiver
with_last r x =
    record {
      sampler = r.sampler;
      queue = r.queue;
      overrun = r.overrun;
      sums = r.sums;
      change = r.change;
      last = x;
    }

-- ---- a pulse ----

-- "break change set": it stays until command 5 or a chip reset
abbrev pub heard_of : Receiver → Sampler → Bool → Receiver
heard_of r s change = with_change (with_sampler r s) (r.change || change)

-- "A confirmed start while one waits removes the waiting one and sets overrun."
unfoldable pub started_of : Receiver → Bool → Receiver
started_of r started =
    pick started (with_overrun (with_queue r (without_waiting_of r.queue)) (r.overrun || waits_of r.queue)) r

-- An arrival. Into an empty queue it becomes oldest: "the marks, each bit ORed, of all that became oldest".
unfoldable pub entered_of : Receiver → Character → Receiver
entered_of r c =
    with_sums (with_queue r (put_of r.queue c))
    (pick (is_empty_of r.queue) (or_marks r.sums c.marks) r.sums)

unfoldable pub arrived_of : Receiver → Option Character → Receiver
arrived_of r None = r
arrived_of r (Some c) = entered_of r c

-- What the sampler answers to a pulse: the confirmed start, then the arrival.
abbrev pub answered_of : Receiver → Sampled → Receiver
answered_of r m = arrived_of (started_of (heard_of r m.next m.change) m.started) m.came

unfoldable pub pulsed_of : Receiver → Bool → Setting → Receiver
pulsed_of r level f = answered_of r (sample_of r.sampler level f)
