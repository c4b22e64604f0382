-- Wrong answers, each shut out by a definition: a routine that gave it would not meet its contract. Assumes nothing.
use mathlib.Core.Path.{◌≡◌}
use mathlib.Core.Bool.{true, false, true≢false, false≢true}
use native.Mathlib.Omega.{arith}
use Rattle.character.specs.Character.{clean, break_character}
use Rattle.queue.specs.declared.queue.Queue.{Queue}
use Rattle.receiver_state.specs.declared.arrivals.Receiver.{Receiver}
use Rattle.receiver_state.specs.Arrivals.{fresh_receiver, with_queue, with_overrun, with_sums, with_change}
use Rattle.receiver_commands.specs.Commands.{assembly_dropped, errors_cleared, break_change_cleared}

-- two breaks held, and every mark set that a command can clear
abbrev two : Queue
two = record { count = 2; first = break_character; second = break_character; third = clean 0; waiting = clean 0 }

abbrev marked : Receiver
marked = with_sums (with_overrun (with_change (with_queue fresh_receiver two) true) true) break_character.marks

-- "4 clear overrun, block sums and the top character's marks"
no_four_clears_every_mark : ((r : Receiver) → false ≡ (errors_cleared r).queue.second.marks.broken) → ⊥
no_four_clears_every_mark h = false≢true (h marked)

no_four_keeps_overrun : ((r : Receiver) → r.overrun ≡ (errors_cleared r).overrun) → ⊥
no_four_keeps_overrun h = true≢false (h marked)

no_four_keeps_sums : ((r : Receiver) → r.sums.broken ≡ (errors_cleared r).sums.broken) → ⊥
no_four_keeps_sums h = true≢false (h marked)

-- "5 clear break change"
no_five_keeps_change : ((r : Receiver) → r.change ≡ (break_change_cleared r).change) → ⊥
no_five_keeps_change h = true≢false (h marked)

-- "Disable drops the character being put together and ends the wait for a break's end, no more."
no_enabling_empties : ((r : Receiver) → 0 ≡ (assembly_dropped r).queue.count) → ⊥
no_enabling_empties h = omega (arith, h marked)
