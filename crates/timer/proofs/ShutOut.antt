-- Wrong answers, each shut out by a definition: a routine that gave it would not meet its contract. Assumes nothing.
use Rattle.std.proofs.Common.{◌≡◌, ℕ, true, false, not, ◌||◌, eqb, true≢false, arith}
use mathlib.Core.Bool.{false≢true}
use Rattle.format.specs.Pick.{pick}
use Rattle.timer_state.specs.declared.counting.Timer.{Timer}
use Rattle.dividers.proofs.Laws.Divider.{ticks_of}
use Rattle.timer_state.specs.Counting.{fresh_timer, with_preload, with_count, with_running, with_ready, mode_of, is_timer}
use Rattle.timer.specs.Timer.{started_of, stopped_of, mode_changed}
use Rattle.timer.specs.Passing.{sixteenths_room, running_room, timer_room, pulses_in, counted_by, timer_passed}

-- a counter under way
abbrev running : Timer
running = with_running (with_preload fresh_timer 1) true

-- a timer whose output is low
abbrev low : Timer
low = with_count fresh_timer 1 false

-- "Counter: start loads the preload and runs"
no_counter_not_started : ((t : Timer) (mode : ℕ) → t.running ≡ (started_of t mode).running) → ⊥
unfolding started_of pick
no_counter_not_started h = false≢true (h fresh_timer 0)

-- order 4: "a start that takes the output from low to high does set ISR bit 3": one that sets it whatever the output
-- was, one that never does, one that does in a counter mode, one that clears it where it does not set it
no_start_sets_bit3 : ((t : Timer) (mode : ℕ) → pick (is_timer mode) true t.ready ≡ (started_of t mode).ready) → ⊥
unfolding started_of pick
no_start_sets_bit3 h = true≢false (h fresh_timer 4)

no_start_never_sets : ((t : Timer) (mode : ℕ) → t.ready ≡ (started_of t mode).ready) → ⊥
unfolding started_of pick
no_start_never_sets h = false≢true (h low 4)

no_counter_start_sets : ((t : Timer) (mode : ℕ) → (t.ready || not t.output) ≡ (started_of t mode).ready) → ⊥
unfolding started_of pick
no_counter_start_sets h = true≢false (h low 0)

no_start_clears_bit3 :
    ((t : Timer) (mode : ℕ) → pick (is_timer mode) (not t.output) t.ready ≡ (started_of t mode).ready) → ⊥
unfolding started_of pick
no_start_clears_bit3 h = false≢true (h (with_ready fresh_timer true) 4)

-- "A change of ACR 6-4 reloads, drives the output high, setting no bit"
no_change_sets_bit3 :
    ((t : Timer) (before after : ℕ) → (t.ready || not t.output) ≡ (mode_changed t before after).ready) → ⊥
unfolding mode_changed pick
no_change_sets_bit3 h = true≢false (h low 0 64)

-- "Timer: .. stop clears the bit only"
no_stop_halts_timer : ((t : Timer) (mode : ℕ) → false ≡ (stopped_of t mode).running) → ⊥
unfolding stopped_of pick
no_stop_halts_timer h = false≢true (h running 4)

-- "A change of ACR 6-4 reloads": here any write does
no_any_write_reloads : ((t : Timer) (before after : ℕ) → t.preload ≡ (mode_changed t before after).count) → ⊥
unfolding mode_changed pick
no_any_write_reloads h = omega (arith, h running 0 0)

-- "and runs exactly in timer modes"
no_counts_in_new_mode :
    ((t : Timer) (before after : ℕ)
    → pick (eqb (mode_of before) (mode_of after)) t.running (is_timer (mode_of after) || t.running)
    ≡ (mode_changed t before after).running)
    → ⊥
unfolding mode_changed pick
no_counts_in_new_mode h = true≢false (h running 0 16)

-- ---- ticks that pass ----

-- "Timer on ticks, preload 2, start": the second tick is the toggle, so one passes; here the toggle is passed over
no_toggle_passed_over : 2 ≡ (timer_room (with_count fresh_timer 2 true) 6).0 → ⊥
unfolding timer_room running_room pick
no_toggle_passed_over = omega arith

-- "Counter on ticks/16, phase 0, preload 3: ISR bit 3 after 48 ticks, not 47."; here its end is passed over
no_end_passed_over : 48 ≡ (timer_room (with_running (with_count fresh_timer 3 true) true) 3).0 → ⊥
unfolding timer_room running_room sixteenths_room pick
no_end_passed_over = omega arith

-- "Both /16 phases always run"
no_sixteenth_lost : ((t : Timer) (mode : ℕ) → t.ticks.0 ≡ (timer_passed t mode (ticks_of 1)).ticks.0) → ⊥
unfolding timer_passed
no_sixteenth_lost h = omega (arith, h fresh_timer 0)

-- "Each pulse takes 1 from the count": in 48 ticks there are three
no_pulse_each_tick : 48 ≡ pulses_in fresh_timer 3 (ticks_of 48) → ⊥
unfolding pulses_in pick
no_pulse_each_tick = omega arith

-- a counter that was not started
no_stopped_counts : 65533 ≡ (timer_passed fresh_timer 3 (ticks_of 48)).count → ⊥
unfolding timer_passed pulses_in counted_by pick
no_stopped_counts = omega arith
