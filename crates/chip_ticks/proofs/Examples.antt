-- Document 01's own number for a run: "Timer on ticks, preload 2, start: ISR bit 3 after 4 ticks, not 3." With IMR bit 3 IRQ is asserted then. Assumes
-- nothing.
use mathlib.Core.Path.{◌≡◌, refl}
use mathlib.Core.Bool.{true, false}
use Rattle.timer_state.specs.declared.counting.Timer.{Timer}
use Rattle.timer_state.specs.Counting.{fresh_timer, with_preload, with_count, with_ready}
use Rattle.front.specs.Front.{front_at, with_timer, with_registers}
use Rattle.chip_device.specs.declared.device.Device.{Device}
use Rattle.chip_device.specs.Device.{fresh_device}
use Rattle.chip_device.proofs.Examples.{five_flags}
use Rattle.chip_laws.proofs.Computing.{computing}
use Rattle.chip_ticks.specs.Ticks.{spent_of}
use Rattle.chip_ticks.specs.Run.{run_refusal, run_of}

-- ACR 6-4 = 110, IMR bit 3
abbrev pub timing : Timer → Device
timing t =
    record {
      front = with_registers (with_timer (front_at 255) t) 96 8 15;
      a = fresh_device.a;
      b = fresh_device.b;
    }

-- case 11, just started
abbrev pub started : Device
started = timing (with_count (with_preload fresh_timer 2) 2 true)

-- IRQ asserted already
abbrev pub asserted : Device
asserted = timing (with_ready fresh_timer true)

after_four : ((run_of started 10).ticks ≡ 4) × ((run_of started 10).lines.irq ≡ true)
unfolding computing spent_of run_refusal run_of
after_four = (refl, refl)

-- "not 3"
not_three : ((run_of started 3).ticks ≡ 3) × ((run_of started 3).lines.irq ≡ false)
unfolding computing spent_of run_refusal run_of
not_three = (refl, refl)

-- "zero if IRQ is asserted already"
none_asserted : ((run_of asserted 10).ticks ≡ 0) × ((run_of asserted 10).lines.irq ≡ true)
unfolding computing spent_of run_refusal run_of
none_asserted = (refl, refl)

-- "Refusals, in this order and before any event: 1, .. 9 for a .. budget over its limit"; "up to 1,000,000"
refuses : (run_refusal five_flags 1000001 ≡ 1) × (run_refusal fresh_device 1000001 ≡ 9) × (run_refusal fresh_device 1000000 ≡ 0)
unfolding computing run_refusal
refuses = (refl, refl, refl)
