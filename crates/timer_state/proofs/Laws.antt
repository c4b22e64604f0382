-- The counter/timer after a chip reset, by document 01's numbers: computed. The statement takes what it speaks of, so that a wrong reset is refuted by
-- it. Assumes nothing.
use Prim.Native.Nat.{ℕ, ◌<◌}
use mathlib.Core.Path.{◌≡◌, refl}
use mathlib.Core.Bool.{Bool, true, false}
use borrow.Author.Tests.{lt-leb}
use Rattle.format.specs.Pick.{pick}
use Rattle.timer_state.specs.declared.counting.Counted.{Counted}
use Rattle.timer_state.specs.declared.counting.Timer.{Timer}
use Rattle.timer_state.specs.Counting.{fresh_timer, counter_pulsed, pulsed_by}

-- "Chip reset: .. every other register, preload, count, phase, flag, .. 0, counter stopped, timer output high"
pub record Reset (t : Timer) (pulse : Timer → ℕ → Bool → Counted) : Type 0 where
  pub preload : t.preload ≡ 0
  pub count : t.count ≡ 0
  pub phases : (t.ticks.0 ≡ 0) × (t.edges.0 ≡ 0)
  pub flag : t.ready ≡ false
  pub output : t.output ≡ true
  -- stopped: a pulse takes nothing from the count and sets no bit, in mode 0, which is ACR's after a chip reset, and in the other counter modes
  pub stopped : (mode : ℕ) → mode < 4 → ((pulse t mode true).timer.count ≡ 0) × ((pulse t mode true).timer.ready ≡ false)

pub reset : Reset fresh_timer pulsed_by
unfolding pulsed_by counter_pulsed pick
reset = record { preload = refl; count = refl; phases = (refl, refl); flag = refl; output = refl; stopped = λ mode l. rw (lt-leb 4 mode l) (refl, refl) }
