-- `Modes` shuts out wrong tests of a mode, whoever shares them: each is ours but for one mode, where one pulse, or none, is computed. Assumes nothing.
use Rattle.std.proofs.Common.{ℕ, ◌/◌, ◌%◌, Bool, true, false, not, eqb, true≢false, arith}
use mathlib.Core.Bool.{false≢true}
use Rattle.format.specs.Pick.{pick}
use Rattle.timer_state.specs.Counting.{mode_of, is_timer, tick_pulses, edge_pulses, transmitter_pulses}
use Rattle.timer.specs.Modes.{pulse_in, Tests, Modes}

-- ours, but in one mode a tick, an edge of IP2 or the transmitters' clocks pulse otherwise, or it is the other of counter and timer; or other bits of
-- ACR choose the mode
abbrev tick_in : ℕ → (Bool → Bool) → Tests
tick_in k f =
    record { mode = mode_of; tick = λ mode s. pick (eqb mode k) (f s) (tick_pulses mode s); edge = edge_pulses; bits = transmitter_pulses; timer = is_timer }

abbrev edge_in : ℕ → (Bool → Bool) → Tests
edge_in k f =
    record { mode = mode_of; tick = tick_pulses; edge = λ mode s. pick (eqb mode k) (f s) (edge_pulses mode s); bits = transmitter_pulses; timer = is_timer }

abbrev bits_in : ℕ → (Bool → Bool → Bool) → Tests
bits_in k f =
    record { mode = mode_of; tick = tick_pulses; edge = edge_pulses; bits = λ mode a b. pick (eqb mode k) (f a b) (transmitter_pulses mode a b); timer = is_timer }

abbrev other_in : ℕ → Tests
other_in k =
    record { mode = mode_of; tick = tick_pulses; edge = edge_pulses; bits = transmitter_pulses; timer = λ mode. pick (eqb mode k) (not (is_timer mode)) (is_timer mode) }

abbrev choosing : (ℕ → ℕ) → Tests
choosing f = record { mode = f; tick = tick_pulses; edge = edge_pulses; bits = transmitter_pulses; timer = is_timer }

-- what a clock may be taken for: each, each 16th, none
abbrev each : Bool → Bool
each s = true

abbrev sixteenth : Bool → Bool
sixteenth s = s

abbrev none : Bool → Bool
none s = false

pub record WrongModes : Type 0 where
  -- "counter on rising IP2": each 16th edge; none; ticks too
  pub no_sixteenths_0 : Modes (edge_in 0 sixteenth) → ⊥
  pub no_edges_0 : Modes (edge_in 0 none) → ⊥
  pub no_ticks_0 : Modes (tick_in 0 each) → ⊥
  -- "TxCA 1X": B's; edges of IP2 too
  pub no_other_1 : Modes (bits_in 1 (λ a b. b)) → ⊥
  pub no_edges_1 : Modes (edge_in 1 each) → ⊥
  -- "TxCB 1X": A's; edges of IP2 too
  pub no_other_2 : Modes (bits_in 2 (λ a b. a)) → ⊥
  pub no_edges_2 : Modes (edge_in 2 each) → ⊥
  -- "ticks/16": each tick; each 16th edge of IP2 too
  pub no_ticks_3 : Modes (tick_in 3 each) → ⊥
  pub no_edges_3 : Modes (edge_in 3 sixteenth) → ⊥
  -- "timer on rising IP2": each 16th edge
  pub no_sixteenths_4 : Modes (edge_in 4 sixteenth) → ⊥
  -- "IP2/16": each edge; each 16th tick too
  pub no_edges_5 : Modes (edge_in 5 each) → ⊥
  pub no_ticks_5 : Modes (tick_in 5 sixteenth) → ⊥
  -- "ticks": each 16th
  pub no_sixteenths_6 : Modes (tick_in 6 sixteenth) → ⊥
  -- "ticks/16": each tick; each 16th edge of IP2 too
  pub no_ticks_7 : Modes (tick_in 7 each) → ⊥
  pub no_edges_7 : Modes (edge_in 7 sixteenth) → ⊥
  -- "ACR 6-4": bits 7-4, 5-4, 7-5
  pub no_bit_7 : Modes (choosing (λ acr. acr / 16)) → ⊥
  pub no_two_bits : Modes (choosing (λ acr. acr / 16 % 4)) → ⊥
  pub no_upper_bits : Modes (choosing (λ acr. acr / 32 % 8)) → ⊥
  -- "0-3 counter .. 4-7 timer": the last counter a timer, the first and the last timer a counter
  pub no_timer_3 : Modes (other_in 3) → ⊥
  pub no_counter_4 : Modes (other_in 4) → ⊥
  pub no_counter_7 : Modes (other_in 7) → ⊥

pub wrong_modes : WrongModes
unfolding pulse_in pick
wrong_modes =
    record {
      no_sixteenths_0 = λ h. false≢true (h.edge 0 false);
      no_edges_0 = λ h. false≢true (h.edge 0 true);
      no_ticks_0 = λ h. true≢false (h.tick 0 false);
      no_other_1 = λ h. true≢false (h.bits 1 false true);
      no_edges_1 = λ h. true≢false (h.edge 1 false);
      no_other_2 = λ h. true≢false (h.bits 2 true false);
      no_edges_2 = λ h. true≢false (h.edge 2 false);
      no_ticks_3 = λ h. true≢false (h.tick 3 false);
      no_edges_3 = λ h. true≢false (h.edge 3 true);
      no_sixteenths_4 = λ h. false≢true (h.edge 4 false);
      no_edges_5 = λ h. true≢false (h.edge 5 false);
      no_ticks_5 = λ h. true≢false (h.tick 5 true);
      no_sixteenths_6 = λ h. false≢true (h.tick 6 false);
      no_ticks_7 = λ h. true≢false (h.tick 7 false);
      no_edges_7 = λ h. true≢false (h.edge 7 true);
      no_bit_7 = λ h. omega (arith, h.mode 128);
      no_two_bits = λ h. omega (arith, h.mode 64);
      no_upper_bits = λ h. omega (arith, h.mode 16);
      no_timer_3 = λ h. true≢false (h.timer 3);
      no_counter_4 = λ h. false≢true (h.timer 4);
      no_counter_7 = λ h. false≢true (h.timer 7);
    }
