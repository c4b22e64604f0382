-- What happens to the counter/timer: a tick, an edge, a 1X transmitter clock; a start, a stop, another mode. Assumes
-- nothing.
use Rattle.std.specs.Prelude.{ℕ, Bool, true, false, not, ◌||◌, ◌==◌}
use Rattle.format.specs.Pick.{pick}
use Rattle.dividers.specs.Divider.{divided_of, sixteenth_of}
use Rattle.timer_state.specs.declared.counting.Counted.{Counted}
use Rattle.timer_state.specs.declared.counting.Timer.{Timer}
use Rattle.timer_state.specs.Counting.{with_count, with_running, with_ready, with_phases, mode_of, is_timer}
use Rattle.timer_state.specs.Counting.{tick_pulses}
use Rattle.timer_state.specs.Counting.{edge_pulses, transmitter_pulses, pulsed_by}

-- a tick: "Both /16 phases always run"
unfoldable pub ticked_by : Timer → ℕ → Counted
ticked_by t mode =
    pulsed_by (with_phases t (divided_of t.ticks (record { 0 = 16 })).phase t.edges) mode
    (tick_pulses mode (divided_of t.ticks (record { 0 = 16 })).pulse)

-- a rising edge of IP2
unfoldable pub edged_by : Timer → ℕ → Counted
edged_by t mode =
    pulsed_by (with_phases t t.ticks (sixteenth_of t.edges).phase) mode
    (edge_pulses mode (sixteenth_of t.edges).pulse)

-- "counter from a 1X transmitter clock": which of A and B had a pulse
abbrev pub transmitted_by : Timer → ℕ → Bool → Bool → Timer
transmitted_by t mode a b = (pulsed_by t mode (transmitter_pulses mode a b)).timer

-- ---- start, stop, another mode ----

-- Order 4: on the MC68681 "a start that takes the output from low to high does set ISR bit 3". Which starts of a timer
-- set the bit is said here alone.
abbrev pub start_sets : Timer → Bool
start_sets t = not t.output

-- "Counter: start loads the preload and runs"; "Timer: .. start reloads and drives the output high", and the bit is set
-- where it was, or where this start sets it
unfoldable pub started_of : Timer → ℕ → Timer
started_of t mode =
    pick (is_timer mode) (with_ready (with_count t t.preload true) (t.ready || start_sets t))
    (with_running (with_count t t.preload t.output) true)

-- "Counter: .. stop halts and clears the bit"; "Timer: .. stop clears the bit only"
unfoldable pub stopped_of : Timer → ℕ → Timer
stopped_of t mode = pick (is_timer mode) (with_ready t false) (with_running (with_ready t false) false)

-- "A change of ACR 6-4 reloads, drives the output high, setting no bit, and runs exactly in timer modes."
unfoldable pub mode_changed : Timer → ℕ → ℕ → Timer
mode_changed t before after =
    pick (mode_of before == mode_of after) t (with_running (with_count t t.preload true) (is_timer (mode_of after)))
