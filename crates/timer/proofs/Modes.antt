-- The code's tests of a mode are document 01's eight cases: each mode is computed, and above 7 there is no clock. Assumes nothing.
use Rattle.std.proofs.Common.{◌≡◌, ℕ, zero, suc, ◌<◌, Bool, true, false, eqb, refl, arith, ne_eqb, le-leb}
use mathlib.Core.Bool.{false≢true}
use Rattle.format.specs.Pick.{pick}
use Rattle.timer_state.specs.declared.counting.Timer.{Timer}
use Rattle.timer_state.specs.Counting.{mode_of, is_timer, tick_pulses, edge_pulses, transmitter_pulses, pulsed_by}
use Rattle.timer.specs.Modes.{Comes, pulse_in, timer_in, a_tick, an_edge, ones, Tests, Modes}

-- modes 0 to 7, and those above
to_seven : (P : ℕ → Type 0) → P 0 → P 1 → P 2 → P 3 → P 4 → P 5 → P 6 → P 7 → ((n : ℕ) → 7 < n → P n) → (mode : ℕ) → P mode
to_seven P a b c d e f g h i zero = a
to_seven P a b c d e f g h i (suc zero) = b
to_seven P a b c d e f g h i (suc (suc zero)) = c
to_seven P a b c d e f g h i (suc (suc (suc zero))) = d
to_seven P a b c d e f g h i (suc (suc (suc (suc zero)))) = e
to_seven P a b c d e f g h i (suc (suc (suc (suc (suc zero))))) = f
to_seven P a b c d e f g h i (suc (suc (suc (suc (suc (suc zero)))))) = g
to_seven P a b c d e f g h i (suc (suc (suc (suc (suc (suc (suc zero))))))) = h
to_seven P a b c d e f g h i (suc (suc (suc (suc (suc (suc (suc (suc n)))))))) = i _ (omega arith)

-- above 7
other : (n k : ℕ) → 7 < n → k < 8 → eqb n k ≡ false
other n k l m = ne_eqb n k (λ e. omega arith)

no_pulse : (n : ℕ) (c : Comes) → 7 < n → pulse_in n c ≡ false
unfolding pulse_in pick
no_pulse n c l =
    rw (
      other n 0 l (omega arith),
      other n 1 l (omega arith),
      other n 2 l (omega arith),
      other n 3 l (omega arith),
      other n 4 l (omega arith),
      other n 5 l (omega arith),
      other n 6 l (omega arith),
      other n 7 l (omega arith),
    )

tick_mode : (s : Bool) (mode : ℕ) → tick_pulses mode s ≡ pulse_in mode (a_tick s)
unfolding pulse_in pick
tick_mode s =
    to_seven (λ (m : ℕ). tick_pulses m s ≡ pulse_in m (a_tick s)) refl refl refl refl refl refl refl refl
    (λ n l. rw (no_pulse n (a_tick s) l, other n 6 l (omega arith), other n 3 l (omega arith), other n 7 l (omega arith)))

edge_mode : (s : Bool) (mode : ℕ) → edge_pulses mode s ≡ pulse_in mode (an_edge s)
unfolding pulse_in pick
edge_mode s =
    to_seven (λ (m : ℕ). edge_pulses m s ≡ pulse_in m (an_edge s)) refl refl refl refl refl refl refl refl
    (λ n l. rw (no_pulse n (an_edge s) l, other n 0 l (omega arith), other n 4 l (omega arith), other n 5 l (omega arith)))

bits_above : (a b : Bool) (n : ℕ) → 7 < n → transmitter_pulses n a b ≡ pulse_in n (ones a b)
bits_above a b n l = rw (no_pulse n (ones a b) l, other n 1 l (omega arith), other n 2 l (omega arith))

bits_mode : (a b : Bool) (mode : ℕ) → transmitter_pulses mode a b ≡ pulse_in mode (ones a b)
unfolding pulse_in pick
bits_mode true b =
    to_seven (λ (m : ℕ). transmitter_pulses m true b ≡ pulse_in m (ones true b)) refl refl refl refl refl refl refl refl (bits_above true b)
bits_mode false b =
    to_seven (λ (m : ℕ). transmitter_pulses m false b ≡ pulse_in m (ones false b)) refl refl refl refl refl refl refl refl (bits_above false b)

pub timer_mode : (mode : ℕ) → is_timer mode ≡ timer_in mode
timer_mode =
    to_seven (λ (m : ℕ). is_timer m ≡ timer_in m) refl refl refl refl refl refl refl refl
    (λ n l. rw (le-leb 4 n (omega arith), other n 0 l (omega arith), other n 1 l (omega arith), other n 2 l (omega arith), other n 3 l (omega arith)))

abbrev pub tests : Tests
tests = record { mode = mode_of; tick = tick_pulses; edge = edge_pulses; bits = transmitter_pulses; timer = is_timer }

pub modes : Modes tests
modes =
    record { mode = λ acr. refl; tick = λ mode s. tick_mode s mode; edge = λ mode s. edge_mode s mode; bits = λ mode a b. bits_mode a b mode; timer = timer_mode }

-- ---- the clocks of one event ----

-- ticks or edges come before the transmitters' 1X clocks
abbrev pub first : Comes → Comes
first c = record { ip2 = c.ip2; ip2_by16 = c.ip2_by16; txca = false; txcb = false; ticks = c.ticks; ticks_by16 = c.ticks_by16 }

-- where none of them comes there is no pulse
pub none_comes : (mode : ℕ) → pulse_in mode (ones false false) ≡ false
unfolding pulse_in pick
none_comes =
    to_seven (λ (m : ℕ). pulse_in m (ones false false) ≡ false) refl refl refl refl refl refl refl refl (λ n l. no_pulse n (ones false false) l)

-- a mode has one clock: so it has at most one pulse of both
pub pulsed_once : (t : Timer) (c : Comes) (mode : ℕ)
    → (pulsed_by (pulsed_by t mode (pulse_in mode (first c))).timer mode (pulse_in mode (ones c.txca c.txcb))).timer
    ≡ (pulsed_by t mode (pulse_in mode c)).timer
unfolding pulse_in pulsed_by pick
pulsed_once t c =
    to_seven
    (λ (m : ℕ).
    (pulsed_by (pulsed_by t m (pulse_in m (first c))).timer m (pulse_in m (ones c.txca c.txcb))).timer
    ≡ (pulsed_by t m (pulse_in m c)).timer)
    refl refl refl refl refl refl refl refl
    (λ n l. rw (no_pulse n c l, no_pulse n (first c) l, no_pulse n (ones c.txca c.txcb) l))

-- a timer's is none of the transmitters'
pub timer_first : (c : Comes) (mode : ℕ) → timer_in mode ≡ true → pulse_in mode c ≡ pulse_in mode (first c)
unfolding pulse_in pick
timer_first c =
    to_seven (λ (m : ℕ). timer_in m ≡ true → pulse_in m c ≡ pulse_in m (first c)) (λ h. refl) (λ h. absurd (false≢true h))
    (λ h. absurd (false≢true h)) (λ h. refl) (λ h. refl) (λ h. refl) (λ h. refl) (λ h. refl)
    (λ n l h. rw (no_pulse n c l, no_pulse n (first c) l))
