-- The eight modes of the counter/timer on the chip, each with every clock that document 01 names, by computing: the mode that takes the clock counts
-- it, and the seven others do not. Assumes nothing.
use Prim.Native.Nat.{ℕ, zero, suc, ◌*◌}
use mathlib.Core.Path.{◌≡◌, refl}
use mathlib.Core.Bool.{Bool, true, false}
use mathlib.Core.List.{List, [], ◌∷◌, ◌++◌}
use native.Mathlib.Omega.{arith}
use Rattle.byte_bits.specs.Bytes.{has_bit}
use Rattle.events.specs.declared.events.Event.{Event}
use Rattle.events.specs.declared.events.Event.TheVariants.{Read, Write, Pins}
use Rattle.demands.specs.Chip.{shows, lines_after}
use Rattle.demands.specs.Counter.{since, Loaded, count_shown}
use Rattle.demands.proofs.Laws.Looks.{chip}
use Rattle.demands.proofs.Computing.{computing}
use Rattle.demands_met.proofs.Examples.{ticks}

-- ---- the events ----

-- both transmitters' clocks as CSR chooses, the timer output on OP3, ACR 6-4 and the preload
abbrev set : ℕ → ℕ → ℕ → List Event
set csr mode preload = Write 1 csr ∷ Write 9 csr ∷ Write 13 4 ∷ Write 4 (16 * mode) ∷ Write 6 0 ∷ Write 7 preload ∷ []

-- pins fall and rise, so often
abbrev edges : ℕ → ℕ → List Event
edges down zero = []
edges down (suc n) = Pins down ∷ Pins 255 ∷ edges down n

-- IP2; IP3, which is A's transmitter clock on codes 14 and 15; IP5, which is B's
abbrev ip2 : ℕ → List Event
ip2 = edges 251

abbrev ip3 : ℕ → List Event
ip3 = edges 247

abbrev ip5 : ℕ → List Event
ip5 = edges 223

-- ---- what is counted ----

-- the count after 15 rising edges of IP2, 16 edges, 15 ticks, 16 ticks, 16 pulses of A's transmitter and 16 of B's, each after a start with
-- preload 100
abbrev counts : ℕ → ℕ → List ℕ
counts csr mode =
    let after : List Event → ℕ = λ fs. count_shown chip 255 (set csr mode 100 ++ Read 14 ∷ fs) in
    after (ip2 15) ∷ after (ip2 16) ∷ after (ticks 15) ∷ after (ticks 16) ∷ after (ip3 16) ∷ after (ip5 16) ∷ []

-- "ACR 6-4: 0-3 counter on rising IP2, TxCA 1X, TxCB 1X, ticks/16; 4-7 timer on rising IP2, IP2/16, ticks, ticks/16. Both /16 phases always run,
-- from 0 at a chip reset.": with both transmitters on code 15 (1X)
pub record EightModes : Type 0 where
  pub mode_0 : counts 255 0 ≡ 85 ∷ 84 ∷ 100 ∷ 100 ∷ 100 ∷ 100 ∷ []
  pub mode_1 : counts 255 1 ≡ 100 ∷ 100 ∷ 100 ∷ 100 ∷ 84 ∷ 100 ∷ []
  pub mode_2 : counts 255 2 ≡ 100 ∷ 100 ∷ 100 ∷ 100 ∷ 100 ∷ 84 ∷ []
  pub mode_3 : counts 255 3 ≡ 100 ∷ 100 ∷ 100 ∷ 99 ∷ 100 ∷ 100 ∷ []
  pub mode_4 : counts 255 4 ≡ 85 ∷ 84 ∷ 100 ∷ 100 ∷ 100 ∷ 100 ∷ []
  pub mode_5 : counts 255 5 ≡ 100 ∷ 99 ∷ 100 ∷ 100 ∷ 100 ∷ 100 ∷ []
  pub mode_6 : counts 255 6 ≡ 100 ∷ 100 ∷ 85 ∷ 84 ∷ 100 ∷ 100 ∷ []
  pub mode_7 : counts 255 7 ≡ 100 ∷ 100 ∷ 100 ∷ 99 ∷ 100 ∷ 100 ∷ []
  -- on code 14 (16X) a 1X transmitter clock is "every 16th 16X pulse"
  pub sixteen_1 : counts 238 1 ≡ 100 ∷ 100 ∷ 100 ∷ 100 ∷ 99 ∷ 100 ∷ []
  pub sixteen_2 : counts 238 2 ≡ 100 ∷ 100 ∷ 100 ∷ 100 ∷ 100 ∷ 99 ∷ []

-- ---- what is done at the end ----

-- ISR bit 3 and OP3 after a start with preload 1 and these events
abbrev ended : ℕ → List Event → Bool × Bool
ended mode fs =
    let es : List Event = set 255 mode 1 ++ Read 14 ∷ fs in
    (has_bit (shows chip 255 es 5) 3, has_bit (lines_after chip 255 es).op 3)

-- "0-3 counter .. 4-7 timer": at its first pulse a counter sets the bit, whose complement is on OP3; a timer toggles to low, and sets none
pub record EightEnds : Type 0 where
  pub mode_0 : ended 0 (ip2 1) ≡ (true, false)
  pub mode_1 : ended 1 (ip3 1) ≡ (true, false)
  pub mode_2 : ended 2 (ip5 1) ≡ (true, false)
  pub mode_3 : ended 3 (ticks 16) ≡ (true, false)
  pub mode_4 : ended 4 (ip2 1) ≡ (false, false)
  pub mode_5 : ended 5 (ip2 16) ≡ (false, false)
  pub mode_6 : ended 6 (ticks 1) ≡ (false, false)
  pub mode_7 : ended 7 (ticks 16) ≡ (false, false)

-- ---- what Counter supposes, in the transmitters' modes ----

pub record Transmitters : Type 0 where
  pub a : Loaded 1 (set 255 1 100) (Read 14) (ip3 3)
  pub b : Loaded 2 (set 255 2 100) (Read 14) (ip5 3)
  pub three : (since 1 255 (set 255 1 100) (Read 14) (ip3 3) ≡ 3) × (since 2 255 (set 255 2 100) (Read 14) (ip5 3) ≡ 3)
  pub none : (since 1 255 (set 255 1 100) (Read 14) (ip5 3) ≡ 0) × (since 2 255 (set 255 2 100) (Read 14) (ip3 3) ≡ 0)

-- ---- by computing ----

pub eight_modes : EightModes
unfolding computing
eight_modes =
    record {
      mode_0 = refl;
      mode_1 = refl;
      mode_2 = refl;
      mode_3 = refl;
      mode_4 = refl;
      mode_5 = refl;
      mode_6 = refl;
      mode_7 = refl;
      sixteen_1 = refl;
      sixteen_2 = refl;
    }

pub eight_ends : EightEnds
unfolding computing
eight_ends =
    record { mode_0 = refl; mode_1 = refl; mode_2 = refl; mode_3 = refl; mode_4 = refl; mode_5 = refl; mode_6 = refl; mode_7 = refl }

pub transmitters : Transmitters
unfolding computing
transmitters =
    record {
      a = record { loaded = refl; preload = omega arith; left = refl };
      b = record { loaded = refl; preload = omega arith; left = refl };
      three = (refl, refl);
      none = (refl, refl);
    }
