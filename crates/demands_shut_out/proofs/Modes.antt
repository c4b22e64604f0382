-- What is said of the counter/timer's pulses shuts out a chip that takes the clock of one mode for another's, or a counter for a timer: the count after
-- a start and a few events is computed, and is not the law's. Assumes nothing.
use Prim.Native.Nat.{ℕ, ◌*◌, ◌<◌}
use mathlib.Core.Path.{refl}
use mathlib.Core.Bool.{◌&&◌}
use mathlib.Core.List.{List, [], ◌∷◌}
use native.Mathlib.Omega.{arith}
use borrow.Author.Tests.{eqb-false}
use lib.Dec.{eqb}
use lib.ListN.{replicate}
use Rattle.format.specs.Pick.{pick}
use Rattle.timer_state.specs.Counting.{mode_of}
use Rattle.front.specs.Front.{with_timer, with_registers}
use Rattle.events.specs.declared.events.Event.{Event}
use Rattle.events.specs.declared.events.Event.TheVariants.{Read, Write, Pins, Tick}
use Rattle.chip_device.specs.declared.device.Device.{Device}
use Rattle.chip_step.specs.Chip.{step_of}
use Rattle.demands.specs.Chip.{Chip, chip_of}
use Rattle.demands.specs.Counter.{Counter}
use Rattle.demands_shut_out.proofs.Chips.{is_clock, with_front, leads_to}
use Rattle.demands.proofs.Computing.{computing}

-- ---- the chips ----

abbrev in_mode : ℕ → Device → Device
in_mode mode d = with_front d (with_registers d.front (16 * mode) d.front.imr d.front.ivr)

-- in mode k a tick or a pin event does to the counter/timer what it does in mode j
abbrev takes : ℕ → ℕ → Chip
takes k j =
    chip_of
    (leads_to
    (λ d e x. pick (is_clock e && eqb (mode_of d.front.acr) k)
    (with_front x (with_timer x.front (step_of (in_mode j d) e).state.front.timer))
    x))

-- ---- the events ----

-- both transmitters on code 15 (1X), ACR 6-4 and the preload
abbrev set : ℕ → ℕ → List Event
set mode preload = Write 1 255 ∷ Write 9 255 ∷ Write 4 (16 * mode) ∷ Write 7 preload ∷ []

-- a rising edge of IP2; a pulse of A's transmitter, and of B's; a tick, and sixteen
abbrev ip2 : List Event
ip2 = Pins 251 ∷ Pins 255 ∷ []

abbrev txca : List Event
txca = Pins 247 ∷ []

abbrev txcb : List Event
txcb = Pins 223 ∷ []

abbrev tick : List Event
tick = Tick ∷ []

abbrev sixteen : List Event
sixteen = replicate 16 Tick

-- ---- shut out ----

-- "ACR 6-4: 0-3 counter on rising IP2, TxCA 1X, TxCB 1X, ticks/16; 4-7 timer on rising IP2, IP2/16, ticks, ticks/16."
pub record WrongModes : Type 0 where
  -- each 16th edge of IP2 for each; B's clock for A's; A's for B's; each tick for each 16th
  pub no_0_by_5 : Counter (takes 0 5) → ⊥
  pub no_1_by_2 : Counter (takes 1 2) → ⊥
  pub no_2_by_1 : Counter (takes 2 1) → ⊥
  pub no_3_by_6 : Counter (takes 3 6) → ⊥
  -- of a timer too: each 16th edge for each, each for each 16th; each 16th tick for each, each for each 16th
  pub no_4_by_5 : Counter (takes 4 5) → ⊥
  pub no_5_by_4 : Counter (takes 5 4) → ⊥
  pub no_6_by_7 : Counter (takes 6 7) → ⊥
  pub no_7_by_6 : Counter (takes 7 6) → ⊥
  -- a counter that reloads at its end, and a timer that does not
  pub no_0_by_4 : Counter (takes 0 4) → ⊥
  pub no_3_by_7 : Counter (takes 3 7) → ⊥
  pub no_4_by_0 : Counter (takes 4 0) → ⊥
  pub no_7_by_3 : Counter (takes 7 3) → ⊥

one : 1 < 65536
one = omega arith

five : 5 < 65536
five = omega arith

pub wrong_modes : WrongModes
unfolding computing
wrong_modes =
    record {
      no_0_by_5 = λ h. eqb-false 5 4 refl (h.count 255 0 (set 0 5) ip2 (record { loaded = refl; preload = five; left = refl }) refl);
      no_1_by_2 = λ h. eqb-false 5 4 refl (h.count 255 1 (set 1 5) txca (record { loaded = refl; preload = five; left = refl }) refl);
      no_2_by_1 = λ h. eqb-false 5 4 refl (h.count 255 2 (set 2 5) txcb (record { loaded = refl; preload = five; left = refl }) refl);
      no_3_by_6 = λ h. eqb-false 4 5 refl (h.count 255 3 (set 3 5) tick (record { loaded = refl; preload = five; left = refl }) refl);
      no_4_by_5 = λ h. eqb-false 5 4 refl (h.reloads 255 4 (set 4 5) ip2 (Read 14) (record { loaded = refl; preload = five; left = refl }) refl);
      no_5_by_4 = λ h. eqb-false 4 5 refl (h.reloads 255 5 (set 5 5) ip2 (Read 14) (record { loaded = refl; preload = five; left = refl }) refl);
      no_6_by_7 = λ h. eqb-false 5 4 refl (h.reloads 255 6 (set 6 5) tick (Read 14) (record { loaded = refl; preload = five; left = refl }) refl);
      no_7_by_6 = λ h. eqb-false 4 5 refl (h.reloads 255 7 (set 7 5) tick (Read 14) (record { loaded = refl; preload = five; left = refl }) refl);
      no_0_by_4 = λ h. eqb-false 1 0 refl (h.count 255 0 (set 0 1) ip2 (record { loaded = refl; preload = one; left = refl }) refl);
      no_3_by_7 = λ h. eqb-false 1 0 refl (h.count 255 3 (set 3 1) sixteen (record { loaded = refl; preload = one; left = refl }) refl);
      no_4_by_0 = λ h. eqb-false 0 1 refl (h.reloads 255 4 (set 4 1) ip2 (Read 14) (record { loaded = refl; preload = one; left = refl }) refl);
      no_7_by_3 = λ h. eqb-false 0 1 refl (h.reloads 255 7 (set 7 1) sixteen (Read 14) (record { loaded = refl; preload = one; left = refl }) refl);
    }
