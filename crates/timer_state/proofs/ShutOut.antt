-- Wrong answers, each shut out by a definition: a routine that gave it would not meet its contract. Assumes nothing.
use Prim.Native.Nat.{ℕ, ◌/◌}
use mathlib.Core.Path.{◌≡◌}
use mathlib.Core.Bool.{Bool, true, false, not, ◌&&◌, ◌||◌, true≢false, false≢true}
use native.Mathlib.Omega.{arith}
use lib.Dec.{eqb}
use Rattle.format.specs.Pick.{pick}
use Rattle.timer_state.specs.declared.counting.Timer.{Timer}
use Rattle.timer_state.specs.Counting.{fresh_timer, with_count, with_running, mode_of, tick_pulses, edge_pulses}
use Rattle.timer_state.specs.Counting.{transmitter_pulses, counted_down, counter_pulsed, timer_pulsed, pulsed_by}
use Rattle.timer_state.proofs.Laws.{Reset}

-- "timer output high"
no_output_low : false ≡ fresh_timer.output → ⊥
no_output_low = false≢true

-- ACR bits 6-4
no_mode_with_bit7 : ((acr : ℕ) → acr / 16 ≡ mode_of acr) → ⊥
no_mode_with_bit7 h = omega (arith, h 128)

-- "4-7 timer on rising IP2, IP2/16, ticks, ticks/16"
no_ticks_for_sixteenths :
    ((mode : ℕ) (sixteenth : Bool)
    → ((eqb mode 6 || eqb mode 7) || (eqb mode 3 && sixteenth)) ≡ tick_pulses mode sixteenth)
    → ⊥
no_ticks_for_sixteenths h = true≢false (h 7 false)

no_edges_for_sixteenths :
    ((mode : ℕ) (sixteenth : Bool) → ((eqb mode 0 || eqb mode 4) || eqb mode 5) ≡ edge_pulses mode sixteenth)
    → ⊥
no_edges_for_sixteenths h = true≢false (h 5 false)

-- "TxCA 1X, TxCB 1X" are the counter's
no_timer_by_transmitter :
    ((mode : ℕ) (a b : Bool)
    → (((eqb mode 1 && a) || (eqb mode 2 && b)) || (eqb mode 4 && a)) ≡ transmitter_pulses mode a b)
    → ⊥
no_timer_by_transmitter h = true≢false (h 4 true false)

-- "terminal sets ISR bit 3, counting goes on"
no_halts_at_terminal :
    ((t : Timer) → (t.running && not (eqb (counted_down t.count) 0)) ≡ (counter_pulsed t).running)
    → ⊥
unfolding counter_pulsed pick
no_halts_at_terminal h = false≢true (h (with_running (with_count fresh_timer 1 true) true))

-- "a toggle to high sets ISR bit 3": here one to low
no_bit3_on_low :
    ((t : Timer)
    → pick (eqb (counted_down t.count) 0) (t.ready || t.output) t.ready ≡ (timer_pulsed t).timer.ready)
    → ⊥
unfolding timer_pulsed pick
no_bit3_on_low h = true≢false (h (with_count fresh_timer 1 true))

-- ---- wrong resets, each shut out by document 01's numbers ----
-- Made in the definition and in the code together, they would still be refused.

-- "count .. 0": all ones
no_reset_counts_full : Reset (with_count fresh_timer 65535 true) pulsed_by → ⊥
no_reset_counts_full h = omega (arith, h.count)

-- "counter stopped": the first edge of IP2 takes 1 from 0
no_reset_runs : Reset (with_running fresh_timer true) pulsed_by → ⊥
unfolding pulsed_by counter_pulsed pick
no_reset_runs h = omega (arith, (h.stopped 0 (omega arith)).0)
