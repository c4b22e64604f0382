-- Wrong answers, each shut out by a definition: a routine that gave it would not meet its contract. Assumes nothing.
use Prim.Native.Nat.{ℕ, ◌-◌}
use mathlib.Core.Path.{◌≡◌}
use mathlib.Core.Bool.{true≢false, false≢true}
use native.Mathlib.Omega.{arith}
use lib.Dec.{eqb, leb}
use Rattle.format.specs.Pick.{pick}
use Rattle.character.specs.declared.character.Character.{Character}
use Rattle.character.specs.Character.{clean}
use Rattle.queue.specs.declared.queue.Queue.{Queue}
use Rattle.queue.specs.Queue.{empty_queue, is_empty_of, is_full_of, oldest_of, waits_of}
use Rattle.queue.specs.Queue.{put_of, without_waiting_of, took_of, replaced_of}

-- so many held, of the bytes 1, 2, 3 and 4
abbrev held : ℕ → Queue
held n = record { count = n; first = clean 1; second = clean 2; third = clean 3; waiting = clean 4 }

no_empty_counts_four : 4 ≡ empty_queue.count → ⊥
no_empty_counts_four = omega arith

no_never_empty : ((q : Queue) → eqb q.count 255 ≡ is_empty_of q) → ⊥
no_never_empty h = false≢true (h (held 0))

no_full_at_two : ((q : Queue) → leb 2 q.count ≡ is_full_of q) → ⊥
no_full_at_two h = true≢false (h (held 2))

no_waiting_for_oldest : ((q : Queue) → q.waiting.byte ≡ (oldest_of q).byte) → ⊥
no_waiting_for_oldest h = omega (arith, h (held 4))

no_waits_past_four : ((q : Queue) → leb 5 q.count ≡ waits_of q) → ⊥
no_waits_past_four h = false≢true (h (held 4))

-- "An arrival goes to the queue of three": one into an empty queue
no_arrival_counts_twice : ((c : Character) → 2 ≡ (put_of empty_queue c).count) → ⊥
unfolding put_of pick
no_arrival_counts_twice h = omega (arith, h (clean 9))

-- "or waits when that is full": this one goes over the third
no_third_for_waiting : ((c : Character) → c.byte ≡ (put_of (held 3) c).third.byte) → ⊥
unfolding put_of pick
no_third_for_waiting h = omega (arith, h (clean 9))

-- "Overrun that keeps the waiting character and drops the arriving one.": a removal that removes nothing, and a put
-- into four that does nothing
no_overrun_removes_none : 4 ≡ (without_waiting_of (held 4)).count → ⊥
unfolding without_waiting_of pick
no_overrun_removes_none = omega arith

no_put_drops_arriving : ((c : Character) → 4 ≡ (put_of (held 4) c).waiting.byte) → ⊥
unfolding put_of pick
no_put_drops_arriving h = omega (arith, h (clean 9))

no_read_takes_all : ((q : Queue) → q.count - q.count ≡ (took_of q).count) → ⊥
unfolding took_of pick
no_read_takes_all h = omega (arith, h (held 2))

no_waiting_replaced : ((q : Queue) (c : Character) → c.byte ≡ (replaced_of q c).waiting.byte) → ⊥
no_waiting_replaced h = omega (arith, h (held 4) (clean 9))
