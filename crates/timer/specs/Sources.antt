-- What pulses the counter/timer, said of any way to take a tick, an edge of IP2 and the 1X transmitter clocks, so that
-- it can be proved of one and proved false of others: "Both /16 phases always run, from 0 at a chip reset." Assumes
-- nothing.
use Rattle.std.specs.Prelude.{◌≡◌, ℕ, suc, ◌+◌, ◌/◌, ◌%◌, Bool, true, false, List, [], ◌∷◌, ◌==◌}
use Rattle.format.specs.Digits.{bit}
use Rattle.timer_state.specs.declared.counting.Counted.{Counted}
use Rattle.timer_state.specs.declared.counting.Timer.{Timer}
use Rattle.timer_state.specs.Counting.{fresh_timer, with_phases, with_preload}
use Rattle.timer.specs.Counts.{Pulsing}
use Rattle.timer.specs.Modes.{pulse_in, a_tick, an_edge, ones}

-- ways to take what may pulse it
pub record Ways : Type 0 where
  pub tick : Timer → ℕ → Counted
  pub edge : Timer → ℕ → Counted
  pub bits : Timer → ℕ → Bool → Bool → Timer
  pub start : Timer → ℕ → Timer
  pub stop : Timer → ℕ → Timer
  pub change : Timer → ℕ → ℕ → Timer

-- Where m ticks, or m edges, have come since the phase was 0, the next is the 16th exactly where 16 divides m + 1.
pub record Sources (w : Ways) (p : Pulsing) : Type 0 where
  pub ticks : (t : Timer) (mode m : ℕ) → t.ticks.0 ≡ m % 16
      → w.tick t mode ≡ p (with_phases t (record { 0 = suc m % 16 }) t.edges) mode
      (pulse_in mode (a_tick (suc m % 16 == 0)))
  pub edges : (t : Timer) (mode m : ℕ) → t.edges.0 ≡ m % 16
      → w.edge t mode ≡ p (with_phases t t.ticks (record { 0 = suc m % 16 })) mode
      (pulse_in mode (an_edge (suc m % 16 == 0)))
  pub bits : (t : Timer) (mode : ℕ) (a b : Bool) → w.bits t mode a b ≡ (p t mode (pulse_in mode (ones a b))).timer

-- all that can happen to it but a chip reset: `acr` is a write of that register, `preload` of those
pub data Happening : Type 0 where
  tick edge start stop : Happening
  bits : Bool → Bool → Happening
  acr preload : ℕ → Happening

abbrev pub is_tick : Happening → Bool
is_tick tick = true
is_tick edge = false
is_tick start = false
is_tick stop = false
is_tick (bits a b) = false
is_tick (acr byte) = false
is_tick (preload n) = false

abbrev pub is_edge : Happening → Bool
is_edge tick = false
is_edge edge = true
is_edge start = false
is_edge stop = false
is_edge (bits a b) = false
is_edge (acr byte) = false
is_edge (preload n) = false

unfoldable pub how_many : (Happening → Bool) → List Happening → ℕ
how_many is [] = 0
how_many is (x ∷ xs) = how_many is xs + bit (is x)

-- the counter/timer and ACR, whose bits 6-4 are the mode, after one more
abbrev pub happens : Ways → Happening → Timer × ℕ → Timer × ℕ
happens w tick (t, r) = ((w.tick t (r / 16 % 8)).timer, r)
happens w edge (t, r) = ((w.edge t (r / 16 % 8)).timer, r)
happens w start (t, r) = (w.start t (r / 16 % 8), r)
happens w stop (t, r) = (w.stop t (r / 16 % 8), r)
happens w (bits a b) (t, r) = (w.bits t (r / 16 % 8) a b, r)
happens w (acr byte) (t, r) = (w.change t r byte, byte)
happens w (preload n) (t, r) = (with_preload t n, r)

-- since a chip reset, the last one first
unfoldable pub since : Ways → List Happening → Timer × ℕ
since w [] = (fresh_timer, 0)
since w (x ∷ xs) = happens w x (since w xs)

-- Both phases count all their ticks and edges, whatever the mode is and whatever else happens.
pub record AlwaysRuns (w : Ways) : Type 0 where
  pub ticks : (xs : List Happening) → (since w xs).0.ticks.0 ≡ how_many is_tick xs % 16
  pub edges : (xs : List Happening) → (since w xs).0.edges.0 ≡ how_many is_edge xs % 16
