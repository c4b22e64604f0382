-- "Chip reset: IVR 15, every other register, .. 0, .. Pin levels stay."; "A fresh device is the state after a chip
-- reset with all pins high." Assumes nothing.
use Rattle.std.specs.Prelude.{ℕ, ◌≡◌, true}
use Rattle.receiver_state.specs.Arrivals.{fresh_receiver}
use Rattle.events.specs.declared.events.Event.TheVariants.{ChipReset}
use Rattle.front.specs.Front.{front_at}
use Rattle.chip_device.specs.declared.device.Device.{Device}
use Rattle.chip_device.specs.Device.{fresh_device, is_sound_of}
use Rattle.chip_laws.specs.Table.{Step}

-- the device after a chip reset at these levels, of which nothing else is kept
abbrev pub reset_at : ℕ → Device
reset_at levels = record { front = front_at levels; a = fresh_receiver; b = fresh_receiver }

pub record Resets (step : Step) : Type 0 where
  pub accepted : (d : Device) → is_sound_of d ≡ true → (step d ChipReset).number ≡ 0
  pub state : (d : Device) → is_sound_of d ≡ true → (step d ChipReset).state ≡ reset_at d.front.inputs.levels
  pub fresh : (d : Device) → is_sound_of d ≡ true → d.front.inputs.levels ≡ 255 → (step d ChipReset).state ≡ fresh_device
