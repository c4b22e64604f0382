-- No row refuses a chip reset of a sound device, and what it makes of one is computed: only the levels of the pins are left of it. Assumes nothing.
use mathlib.Core.Path.{◌≡◌, refl, ap, ◌∙◌}
use mathlib.Core.Bool.{true, false}
use Rattle.events.specs.declared.events.Event.TheVariants.{ChipReset}
use Rattle.chip_device.specs.declared.device.Device.{Device}
use Rattle.chip_step.specs.declared.chip.Answer.{Answer}
use Rattle.chip_device.specs.Device.{fresh_device, is_sound_of}
use Rattle.chip_step.specs.Chip.{step_of}
use Rattle.chip_step.proofs.Laws.Table.{accepts}
use Rattle.chip_laws.specs.Reset.{reset_at, Resets}
use Rattle.chip_laws.proofs.Examples.{idle_lines}
use Rattle.chip_laws.proofs.Computing.{computing}

-- the whole answer
pub reset : (d : Device) → is_sound_of d ≡ true
    → step_of d ChipReset ≡ record { number = 0; byte = 0; fresh = false; lines = idle_lines false; state = reset_at d.front.inputs.levels }
unfolding computing
reset d s = accepts d ChipReset (rw s) refl

pub resets : Resets step_of
unfolding fresh_device
resets =
    record {
      accepted = λ d s. ap (λ (x : Answer). x.number) (reset d s);
      state = λ d s. ap (λ (x : Answer). x.state) (reset d s);
      fresh = λ d s high. ap (λ (x : Answer). x.state) (reset d s) ∙ ap reset_at high;
    }
