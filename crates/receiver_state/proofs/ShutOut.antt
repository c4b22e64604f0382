-- Wrong answers, each shut out by a definition: a routine that gave it would not meet its contract. Assumes nothing.
use mathlib.Core.Path.{◌≡◌}
use mathlib.Core.Bool.{true, ◌&&◌, true≢false, false≢true}
use native.Mathlib.Omega.{arith}
use Rattle.format.specs.Pick.{pick}
use Rattle.character.specs.declared.character.Character.{Character}
use Rattle.character.specs.Character.{no_character, break_character}
use Rattle.queue.specs.Queue.{waits_of, without_waiting_of}
use Rattle.receiver_state.specs.declared.arrivals.Receiver.{Receiver}
use Rattle.receiver_state.specs.Arrivals.{fresh_receiver, with_queue, started_of, entered_of}

-- three held, and one that waits
abbrev four : Receiver
four =
    with_queue fresh_receiver
    (record { count = 4; first = no_character; second = no_character; third = no_character; waiting = no_character })

no_fresh_overrun : true ≡ fresh_receiver.overrun → ⊥
no_fresh_overrun = true≢false

-- "A confirmed start while one waits removes the waiting one and sets overrun."
no_overrun_not_set : ((r : Receiver) → (r.overrun && waits_of r.queue) ≡ (started_of r true).overrun) → ⊥
unfolding started_of pick
no_overrun_not_set h = false≢true (h four)

no_waiting_not_removed : ((r : Receiver) → r.queue.count ≡ (started_of r true).queue.count) → ⊥
unfolding started_of without_waiting_of pick
no_waiting_not_removed h = omega (arith, h four)

-- "the marks, each bit ORed, of all that became oldest": into an empty queue, and this one sums the sums alone
no_sums_miss_arrival : ((c : Character) → fresh_receiver.sums.broken ≡ (entered_of fresh_receiver c).sums.broken) → ⊥
unfolding entered_of pick
no_sums_miss_arrival h = false≢true (h break_character)
