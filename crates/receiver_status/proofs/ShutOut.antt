-- Wrong answers, each shut out by a definition: a routine that gave it would not meet its contract. Assumes nothing.
use mathlib.Core.Path.{◌≡◌}
use mathlib.Core.Bool.{Bool, true, false, true≢false, false≢true}
use Rattle.format.specs.Pick.{pick}
use Rattle.character.specs.Character.{break_character}
use Rattle.queue.specs.Queue.{is_empty_of}
use Rattle.receiver_state.specs.declared.arrivals.Receiver.{Receiver}
use Rattle.receiver_state.specs.Arrivals.{fresh_receiver, oldest_marks, with_sums}
use Rattle.receiver_status.specs.Status.{shown_marks, status_of}

-- "Block: the marks, each bit ORed, of all that became oldest": a break has been read, and none is held
no_character_for_block : ((r : Receiver) → (oldest_marks r.queue).broken ≡ (shown_marks r true).broken) → ⊥
unfolding shown_marks oldest_marks pick
no_character_for_block h = false≢true (h (with_sums fresh_receiver break_character.marks))

-- "RxRDY: queue not empty."
no_ready_when_empty : ((r : Receiver) (block : Bool) → is_empty_of r.queue ≡ (status_of r block).ready) → ⊥
no_ready_when_empty h = true≢false (h fresh_receiver false)
