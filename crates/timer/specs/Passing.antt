-- The counter/timer while ticks pass that do not bring it to its end. Assumes nothing.
use Rattle.std.specs.Prelude.{ℕ, ◌+◌, ◌-◌, ◌*◌, ◌/◌, ◌%◌, ◌^◌, Bool, true, false, ◌||◌, ◌==◌, nat_lt}
use Rattle.format.specs.declared.counts.Ticks.{Ticks}
use Rattle.format.specs.Pick.{pick}
use Rattle.dividers.specs.Divider.{far_off}
use Rattle.timer_state.specs.declared.counting.Timer.{Timer}
use Rattle.timer_state.specs.Counting.{with_count, with_phases, is_timer, tick_pulses, counted_down}

-- "Timer: always runs"; a counter where it was started and not stopped
abbrev pub runs_in : Timer → ℕ → Bool
runs_in t mode = is_timer mode || t.running

-- the ticks that pass before the 16th that is one pulse too many, from a phase of ticks/16 on
unfoldable pub sixteenths_room : Ticks → ℕ → Ticks
sixteenths_room phase pulses =
    pick (nat_lt phase.0 16) (record { 0 = 15 - phase.0 + 16 * pulses }) (record { 0 = 0 })

-- where it runs: every tick is a pulse, or every 16th, or none
unfoldable pub running_room : Timer → ℕ → Ticks
running_room t mode =
    pick (tick_pulses mode false) (record { 0 = counted_down t.count })
    (pick (tick_pulses mode true) (sixteenths_room t.ticks (counted_down t.count))
    far_off)

-- The room before the end: the ticks that pass before the one that is terminal, "reaching 0".
unfoldable pub timer_room : Timer → ℕ → Ticks
timer_room t mode = pick (runs_in t mode) (running_room t mode) far_off

-- "Each pulse takes 1 from the count, modulo 65,536": so many pulses
unfoldable pub counted_by : ℕ → ℕ → ℕ
counted_by count pulses = pick (pulses == 0) count ((count + 65535 * pulses) % 65536)

-- the phase of ticks/16 when so many ticks have passed, not started again at 16
abbrev pub onward : Timer → Ticks → ℕ
onward t ticks = (t.ticks.0 + ticks.0) % 2 ^ 64

-- the pulses in so many ticks
unfoldable pub pulses_in : Timer → ℕ → Ticks → ℕ
pulses_in t mode ticks = pick (tick_pulses mode false) ticks.0 (pick (tick_pulses mode true) (onward t ticks / 16) 0)

-- the counter/timer when so many ticks have passed within its room: "Both /16 phases always run", the count where it runs
unfoldable pub timer_passed : Timer → ℕ → Ticks → Timer
timer_passed t mode ticks =
    with_count (with_phases t (record { 0 = onward t ticks % 16 }) t.edges)
    (pick (runs_in t mode) (counted_by t.count (pulses_in t mode ticks)) t.count)
    t.output
