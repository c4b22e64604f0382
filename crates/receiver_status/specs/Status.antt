-- What a receiver shows of itself in the status register. Assumes nothing.
use Rattle.std.specs.Prelude.{Bool, not}
use Rattle.format.specs.Pick.{pick}
use Rattle.character.specs.declared.character.Marks.{Marks}
use Rattle.queue.specs.Queue.{is_empty_of, is_full_of}
use Rattle.receiver_state.specs.declared.arrivals.Receiver.{Receiver}
use Rattle.receiver_state.specs.Arrivals.{oldest_marks}
use Rattle.receiver_status.specs.declared.status.Status.{Status}

-- "Character errors: SR 7-5 show the oldest's marks, 0 if none. Block: the marks, each bit ORed, of all that became
-- oldest since command 4 or a chip reset."
unfoldable pub shown_marks : Receiver → Bool → Marks
shown_marks r block = pick block r.sums (oldest_marks r.queue)

-- "RxRDY: queue not empty. FFULL: three in the queue."
abbrev pub status_of : Receiver → Bool → Status
status_of r block =
    record {
      marks = shown_marks r block;
      overrun = r.overrun;
      full = is_full_of r.queue;
      ready = not (is_empty_of r.queue);
    }
