-- Order 5: "A companion runs ticks until IRQ is asserted or a budget of up to 1,000,000 is spent, and reports how many
-- ticks it took: zero if IRQ is asserted already, otherwise the number of single ticks to that state." Assumes nothing.
use Rattle.std.specs.Prelude.{ℕ, true, eqb, ltb}
use Rattle.format.specs.Pick.{pick}
use Rattle.chip_device.specs.declared.device.Device.{Device}
use Rattle.chip_device.specs.Device.{is_sound_of, device_lines}
use Rattle.chip_step.specs.Chip.{refusal_lines}
use Rattle.chip_ticks.specs.declared.ticks.Spent.{Spent}
use Rattle.chip_ticks.specs.declared.until_irq.Ran.{Ran}
use Rattle.chip_ticks.specs.Ticks.{spent_of}

-- "Refusals, in this order and before any event: 1, .. 9 for a list or budget over its limit"
unfoldable pub run_refusal : Device → ℕ → ℕ
run_refusal d budget = pick (is_sound_of d) (pick (ltb 1000000 budget) 9 0) 1

-- no tick, the state as given; "lines as that state drives them (for 1, all lines 0)"
abbrev pub not_run : Device → ℕ → Ran
not_run d number = record { number = number; ticks = 0; lines = refusal_lines d number; state = d }

-- "state and lines equal the single ticks"
abbrev pub ran_of : Spent → Ran
ran_of s = record { number = 0; ticks = s.ticks; lines = device_lines s.state; state = s.state }

unfoldable pub run_of : Device → ℕ → Ran
run_of d budget =
    pick (eqb (run_refusal d budget) 0) (ran_of (spent_of true budget d)) (not_run d (run_refusal d budget))
