-- The ranges that docs/SOUND.md lists, at their edges: each field at the most it may be, and at one more, of a front and of a receiver that are sound
-- otherwise. Computed; the statement takes the tests that it speaks of, so that a field that is not looked at is refuted by it. Assumes nothing.
use Prim.Native.Nat.{ℕ}
use mathlib.Core.Path.{◌≡◌, refl}
use mathlib.Core.Bool.{Bool, true, false}
use mathlib.Core.List.{[], ◌∷◌, ◌++◌, map}
use Rattle.queue.specs.Queue.{empty_queue}
use Rattle.receiver_state.specs.declared.arrivals.Receiver.{Receiver}
use Rattle.receiver_state.specs.Arrivals.{fresh_receiver, with_sampler, with_queue}
use Rattle.timer_state.specs.Counting.{fresh_timer, with_phases}
use Rattle.front_side.specs.declared.side.Side.{Side}
use Rattle.front_side.specs.Side.{fresh_side, with_modes, with_transmitter, with_clocks}
use Rattle.front.specs.declared.front.Front.{Front}
use Rattle.front.specs.Front.{front_at, with_sides, with_timer, with_ports}
use Rattle.front.specs.Sound.{front_in_range}
use Rattle.chip_soundness.specs.Soundness.{receiver_sound}

-- ---- fronts ----

-- A's side is this one, or B's
abbrev on_a : Side → Front
on_a s = with_sides (front_at 255) s fresh_side fresh_timer

abbrev on_b : Side → Front
on_b s = with_sides (front_at 255) fresh_side s fresh_timer

abbrev modes : ℕ → ℕ → Side
modes mr1 mr2 = with_modes fresh_side mr1 mr2 false

abbrev phased : ℕ → ℕ → ℕ → Side
phased r t s = with_clocks fresh_side 0 (record { receiver = record { 0 = r }; transmitter = record { 0 = t }; sixteenths = record { 0 = s } })

abbrev sending : ℕ → ℕ → ℕ → ℕ → Side
sending phase length sent left =
    with_transmitter fresh_side
    (record {
      enabled = false;
      full = false;
      holding = 0;
      phase = phase;
      shifter = record { frame = record { 0 = 0 }; sixteen = true; length = record { 0 = length }; sent = record { 0 = sent } };
      left = record { 0 = left };
      asked = false;
      txd = true;
    })

abbrev timed : ℕ → ℕ → Front
timed ticks edges = with_timer (front_at 255) (with_phases fresh_timer (record { 0 = ticks }) (record { 0 = edges }))

abbrev ported : ℕ → ℕ → Front
ported changes opcr = with_ports (front_at 255) (record { levels = 255; changes = changes }) (record { bits = 0; opcr = opcr })

-- ---- receivers ----

-- this phase, so many pulses left, data bits, parity, samples taken, and their value; and so many held
abbrev hearing : ℕ → ℕ → ℕ → ℕ → ℕ → ℕ → ℕ → Receiver
hearing phase left width parity taken value count =
    with_queue
    (with_sampler fresh_receiver
    (record {
      phase = phase;
      high = false;
      left = record { 0 = left };
      setting = record { format = record { width = record { 0 = width }; parity = parity; odd = false }; sixteen = true };
      taken = record { 0 = taken };
      value = value;
    }))
    (record {
      count = count;
      first = empty_queue.first;
      second = empty_queue.first;
      third = empty_queue.first;
      waiting = empty_queue.first;
    })

-- ---- the statement ----

-- "Sound means no more than this: fields in ranges listed in docs/ that hold every value a rule here can put there, registers holding only values that
-- writes accept, and the waiting place used only with three characters held and no confirmed start under way."
pub record Edges (front : Front → Bool) (receiver : Receiver → Bool) : Type 0 where
  -- what MR1, MR2 and OPCR accept, of A and of B
  pub mr1 :
      map (λ (n : ℕ). front (on_a (modes n 0))) (119 ∷ 120 ∷ 128 ∷ []) ++ map (λ (n : ℕ). front (on_b (modes n 0))) (119 ∷ 120 ∷ 128 ∷ [])
      ≡ true ∷ false ∷ false ∷ true ∷ false ∷ false ∷ []
  pub mr2 :
      map (λ (n : ℕ). front (on_a (modes 0 n))) (31 ∷ 32 ∷ 95 ∷ 96 ∷ 223 ∷ 224 ∷ [])
      ++ map (λ (n : ℕ). front (on_b (modes 0 n))) (159 ∷ 160 ∷ 223 ∷ 224 ∷ [])
      ≡ true ∷ false ∷ true ∷ false ∷ true ∷ false ∷ true ∷ false ∷ true ∷ false ∷ []
  pub opcr : map (λ (n : ℕ). front (ported 0 n)) (244 ∷ 1 ∷ 8 ∷ []) ≡ true ∷ false ∷ false ∷ []
  -- four change flags
  pub changes : map (λ (n : ℕ). front (ported n 0)) (15 ∷ 16 ∷ []) ≡ true ∷ false ∷ []
  -- the longest period is 4608 ticks; 16 pulses make a bit; both /16 phases
  pub phases :
      front (on_a (phased 4607 4607 15))
      ∷ front (on_a (phased 4608 0 0)) ∷ front (on_a (phased 0 4608 0)) ∷ front (on_a (phased 0 0 16)) ∷ front (on_b (phased 4608 0 0)) ∷ []
      ≡ true ∷ false ∷ false ∷ false ∷ false ∷ []
  pub timer : front (timed 15 15) ∷ front (timed 16 0) ∷ front (timed 0 16) ∷ [] ≡ true ∷ false ∷ false ∷ []
  -- four phases; "at most 192" pulses, of which so many are sent; 15 left of the high bit after a break
  pub transmitter :
      front (on_a (sending 3 192 192 15))
      ∷ front (on_a (sending 4 0 0 0)) ∷ front (on_a (sending 0 193 0 0)) ∷ front (on_a (sending 0 0 193 0)) ∷ front (on_b (sending 0 0 0 16)) ∷ []
      ≡ true ∷ false ∷ false ∷ false ∷ false ∷ []
  -- five phases, 15 pulses left, 5 to 8 data bits, parity 0 to 2, nine samples and what they make
  pub sampler :
      receiver (hearing 4 15 8 2 9 511 0) ∷ receiver (hearing 0 0 5 0 0 0 0)
      ∷ receiver (hearing 5 0 5 0 0 0 0) ∷ receiver (hearing 0 16 5 0 0 0 0) ∷ receiver (hearing 0 0 4 0 0 0 0) ∷ receiver (hearing 0 0 9 0 0 0 0)
      ∷ receiver (hearing 0 0 5 3 0 0 0) ∷ receiver (hearing 0 0 5 0 10 0 0) ∷ receiver (hearing 0 0 5 0 0 512 0) ∷ []
      ≡ true ∷ true ∷ false ∷ false ∷ false ∷ false ∷ false ∷ false ∷ false ∷ []
  -- "At most four are ever held."; with one that waits no confirmed start, which is phase 2, is under way
  pub queue :
      receiver (hearing 0 0 5 0 0 0 4) ∷ receiver (hearing 2 0 5 0 0 0 3) ∷ receiver (hearing 0 0 5 0 0 0 5) ∷ receiver (hearing 2 0 5 0 0 0 4) ∷ []
      ≡ true ∷ true ∷ false ∷ false ∷ []

pub edges : Edges front_in_range receiver_sound
unfolding front_at fresh_side
edges =
    record {
      mr1 = refl;
      mr2 = refl;
      opcr = refl;
      changes = refl;
      phases = refl;
      timer = refl;
      transmitter = refl;
      sampler = refl;
      queue = refl;
    }
