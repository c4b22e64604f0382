-- What a feed does to a receiver: a pulse, a command, a read, a chip reset. Assumes nothing.
use Rattle.std.specs.Prelude.{true, false}
use Rattle.format.specs.Pick.{pick}
use Rattle.character.specs.Character.{or_marks}
use Rattle.queue.specs.Queue.{is_empty_of, oldest_of, took_of}
use Rattle.receiver_state.specs.declared.arrivals.Receiver.{Receiver}
use Rattle.receiver_state.specs.Arrivals.{fresh_receiver, oldest_marks, with_queue, with_sums, with_last, pulsed_of}
use Rattle.receiver_commands.specs.Commands.{effect_of, enabling_of}
use Rattle.receiver.specs.declared.receiver.Fed.{Fed}
use Rattle.feed.specs.declared.feed.Feed.{Feed}
use Rattle.feed.specs.declared.feed.Feed.TheVariants.{Nothing, Pulse, Command, Read, ChipReset}

-- ---- a read ----

-- The read of a queue that is not empty: the oldest's byte becomes the last byte read, and the next one, if any,
-- becomes oldest.
unfoldable pub oldest_read : Receiver → Receiver
oldest_read r =
    with_last (with_sums (with_queue r (took_of r.queue)) (or_marks r.sums (oldest_marks (took_of r.queue))))
    (oldest_of r.queue).byte

-- "A read takes the oldest and moves the waiting one up; reading an empty queue repeats the last byte read (0 after a
-- chip reset) and takes nothing." Order 1: "fresh exactly when RxRDY was set before it", and "RxRDY: queue not empty".
unfoldable pub read_of : Receiver → Fed
read_of r =
    pick (is_empty_of r.queue) (record { receiver = r; byte = r.last; fresh = false })
    (record { receiver = oldest_read r; byte = (oldest_of r.queue).byte; fresh = true })

-- ---- any feed ----

-- "the data byte (0 where none is read)"; order 1: "any other event is stale"
abbrev pub unread : Receiver → Fed
unread r = record { receiver = r; byte = 0; fresh = false }

-- "Command: .. bits 6-4 first, then .. 1-0 (receiver)."
unfoldable pub fed_of : Receiver → Feed → Fed
fed_of r Nothing = unread r
fed_of r (Pulse level f) = unread (pulsed_of r level f)
fed_of r (Command e t) = unread (enabling_of (effect_of r e) t)
fed_of r Read = read_of r
fed_of r ChipReset = unread fresh_receiver
