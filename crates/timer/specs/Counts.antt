-- What is owed of the counter/timer, said of any way to take a pulse, to start and to stop, so that it can be proved of
-- one and proved false of others. Assumes nothing.
use Rattle.std.specs.Prelude.{◌≡◌, ℕ, zero, suc, ◌+◌, ◌-◌, ◌*◌, ◌/◌, ◌%◌, ◌<◌, Bool, true, false, not, ◌&&◌, ◌||◌, ◌==◌}
use Rattle.std.specs.Prelude.{nat_le}
use Rattle.format.specs.Pick.{pick}
use Rattle.timer_state.specs.declared.counting.Counted.{Counted}
use Rattle.timer_state.specs.declared.counting.Timer.{Timer}
use Rattle.timer_state.specs.Counting.{with_count, with_running, with_ready, counted_down}
use Rattle.timer.specs.Modes.{timer_in}

-- a way to take a pulse of its clock, or none, in a mode
abbrev pub Pulsing : Type 0
Pulsing = Timer → ℕ → Bool → Counted

-- a way to start, or to stop
abbrev pub Command : Type 0
Command = Timer → ℕ → Timer

-- after so many pulses
unfoldable pub after_pulses : Pulsing → ℕ → Timer → ℕ → Timer
after_pulses p mode t zero = t
after_pulses p mode t (suc m) = (p (after_pulses p mode t m) mode true).timer

-- how many pulses a preload stands for: "modulo 65,536; reaching 0 is terminal"
abbrev pub pulses_of : ℕ → ℕ
pulses_of preload = pick (preload == 0) 65536 preload

-- what only a write of the preload, a tick or an edge of IP2 changes
pub record Kept (t u : Timer) : Type 0 where
  pub preload : u.preload ≡ t.preload
  pub ticks : u.ticks ≡ t.ticks
  pub edges : u.edges ≡ t.edges

-- Without a pulse of its clock nothing happens to it; a pulse leaves the preload and both /16 phases alone.
pub record Leaves (p : Pulsing) : Type 0 where
  pub still : (t : Timer) (mode : ℕ) → p t mode false ≡ record { timer = t; toggled = false }
  pub pulses : (t : Timer) (mode : ℕ) → Kept t (p t mode true).timer

-- ---- a counter ----

-- After a start with preload n it reaches terminal after n pulses (65,536 for 0), then every 65,536.
pub record Counts (p : Pulsing) (start : Command) : Type 0 where
  -- "Each pulse takes 1 from the count, modulo 65,536; .. terminal sets ISR bit 3, counting goes on"; no toggle comes
  -- of it
  pub takes : (t : Timer) (mode : ℕ) → timer_in mode ≡ false → t.running ≡ true
      → p t mode true
      ≡ record {
        timer = with_ready (with_count t (counted_down t.count) t.output)
            (t.ready || counted_down t.count == 0);
        toggled = false;
      }
  -- "stop halts": one that does not run takes no pulse
  pub halted : (t : Timer) (mode : ℕ) → timer_in mode ≡ false → t.running ≡ false
      → p t mode true ≡ record { timer = t; toggled = false }
  pub count : (t : Timer) (mode m : ℕ) → timer_in mode ≡ false → t.preload < 65536
      → (after_pulses p mode (start t mode) m).count ≡ (t.preload + 65535 * m) % 65536
  pub terminal : (t : Timer) (mode m : ℕ) → timer_in mode ≡ false → t.preload < 65536 → 0 < m
      → ((after_pulses p mode (start t mode) m).count == 0)
      ≡ (nat_le (pulses_of t.preload) m && (m - pulses_of t.preload) % 65536 == 0)
  -- the bit is set by the first terminal, and the start neither sets nor clears it
  pub sets : (t : Timer) (mode m : ℕ) → timer_in mode ≡ false → t.preload < 65536
      → (after_pulses p mode (start t mode) m).ready ≡ (t.ready || nat_le (pulses_of t.preload) m)

-- ---- a timer ----

-- k pulses since it was loaded with the output high: the count is k % n pulses down from n, and the output by the whole
-- runs of n
pub record Gone (k : ℕ) (t : Timer) : Type 0 where
  pub count : t.count ≡ (pulses_of t.preload - k % pulses_of t.preload) % 65536
  pub output : t.output ≡ (k / pulses_of t.preload % 2 == 0)

-- Its output toggles every n pulses (65,536 for 0).
pub record Toggles (p : Pulsing) (start : Command) : Type 0 where
  -- "Timer: always runs; terminal toggles and reloads": from any such moment on, running or not, the bit set or cleared
  -- meanwhile
  pub goes : (t : Timer) (mode k m : ℕ) → timer_in mode ≡ true → t.preload < 65536 → Gone k t
      → Gone (k + m) (after_pulses p mode t m)
  -- the toggle to high, which is code 13's pulse, comes with every second one
  pub high : (t : Timer) (mode k : ℕ) → timer_in mode ≡ true → t.preload < 65536 → Gone k t
      → (p t mode true).toggled ≡ (suc k % (2 * pulses_of t.preload) == 0)
  -- "a toggle to high sets ISR bit 3", and nothing else does
  pub sets : (t : Timer) (mode : ℕ) → timer_in mode ≡ true
      → (p t mode true).timer.ready ≡ (t.ready || (p t mode true).toggled)
  -- so after a start the output is high, low, high by runs of n pulses, and the bit is set after two, or at once where
  -- the output was low (order 4)
  pub output : (t : Timer) (mode m : ℕ) → timer_in mode ≡ true → t.preload < 65536
      → (after_pulses p mode (start t mode) m).output ≡ (m / pulses_of t.preload % 2 == 0)
  pub ready : (t : Timer) (mode m : ℕ) → timer_in mode ≡ true → t.preload < 65536
      → (after_pulses p mode (start t mode) m).ready ≡ ((t.ready || not t.output) || nat_le (2 * pulses_of t.preload) m)

-- ---- a start, a stop, another mode: what each does, and that it does no more ----

pub record Obeys (start stop : Command) (change : Timer → ℕ → ℕ → Timer) : Type 0 where
  -- "Counter: start loads the preload and runs"; "stop halts and clears the bit"
  pub starts_counter : (t : Timer) (mode : ℕ) → timer_in mode ≡ false
      → start t mode ≡ with_running (with_count t t.preload t.output) true
  pub stops_counter : (t : Timer) (mode : ℕ) → timer_in mode ≡ false → stop t mode ≡ with_running (with_ready t false) false
  -- "start reloads and drives the output high"; order 4: "a start that takes the output from low to high does set ISR
  -- bit 3"; "stop clears the bit only"
  pub starts_timer : (t : Timer) (mode : ℕ) → timer_in mode ≡ true
      → start t mode ≡ with_ready (with_count t t.preload true) (t.ready || not t.output)
  pub stops_timer : (t : Timer) (mode : ℕ) → timer_in mode ≡ true → stop t mode ≡ with_ready t false
  -- "A change of ACR 6-4 reloads, drives the output high, setting no bit, and runs exactly in timer modes.": any other
  -- write does nothing
  pub changes : (t : Timer) (before after : ℕ) → (before / 16 % 8 == after / 16 % 8) ≡ false
      → change t before after ≡ with_running (with_count t t.preload true) (timer_in (after / 16 % 8))
  pub unchanged : (t : Timer) (before after : ℕ) → (before / 16 % 8 == after / 16 % 8) ≡ true
      → change t before after ≡ t
