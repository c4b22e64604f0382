-- Wrong answers, each shut out by a definition: a routine that gave it would not meet its contract. Assumes nothing.
use Prim.Native.Nat.{ℕ, ◌<◌}
use mathlib.Core.Path.{◌≡◌}
use mathlib.Core.Bool.{◌||◌, false≢true}
use native.Mathlib.Omega.{arith}
use Rattle.format.specs.Pick.{pick}
use Rattle.character.specs.Character.{clean, no_character, break_character}
use Rattle.queue.specs.Queue.{took_of}
use Rattle.receiver_state.specs.declared.arrivals.Receiver.{Receiver}
use Rattle.receiver_state.specs.Arrivals.{fresh_receiver, oldest_marks, with_queue, with_last}
use Rattle.receiver.specs.Receiver.{oldest_read, read_of}

-- the byte 65 held, and a break behind it
abbrev two : Receiver
two =
    with_queue fresh_receiver
    (record { count = 2; first = clean 65; second = break_character; third = no_character; waiting = no_character })

-- "reading an empty queue repeats the last byte read"
no_empty_reads_zero : ((x : ℕ) → x < 256 → 0 ≡ (read_of (with_last fresh_receiver x)).byte) → ⊥
unfolding read_of pick
no_empty_reads_zero h = omega (arith, h 65 (omega arith))

no_last_byte_lost : ((r : Receiver) → r.last ≡ (oldest_read r).last) → ⊥
unfolding oldest_read
no_last_byte_lost h = omega (arith, h two)

-- "the marks, each bit ORed, of all that became oldest": this one adds those of the one that is taken
no_sums_miss_next : ((r : Receiver)
    → (r.sums.broken || (oldest_marks r.queue).broken) ≡ (oldest_read r).sums.broken) → ⊥
unfolding oldest_read oldest_marks took_of pick
no_sums_miss_next h = false≢true (h two)
