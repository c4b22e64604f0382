-- "A status read that takes a character" is a trap: it changes nothing at all; and "acknowledge then reads IVR and
-- changes nothing". The first on every device, sound or not. Assumes nothing.
use Rattle.std.specs.Prelude.{ℕ, ◌≡◌, Bool, true, ◌||◌, eqb}
use Rattle.events.specs.declared.events.Event.TheVariants.{Read, Acknowledge}
use Rattle.chip_device.specs.declared.device.Device.{Device}
use Rattle.chip_device.specs.Device.{is_sound_of}
use Rattle.chip_refusals.specs.Rows.{device_asserted}
use Rattle.chip_laws.specs.Table.{Step}

-- the registers that a read only looks at: SR of A and of B, ISR, the count, IVR and the input port
abbrev pub only_looks : ℕ → Bool
only_looks n = (eqb n 1 || eqb n 9) || ((eqb n 5 || (eqb n 6 || eqb n 7)) || (eqb n 12 || eqb n 13))

pub record Quiet (step : Step) : Type 0 where
  pub read : (d : Device) (n : ℕ) → only_looks n ≡ true → (step d (Read n)).state ≡ d
  pub acknowledge : (d : Device) → (step d Acknowledge).state ≡ d
  pub vector : (d : Device) → is_sound_of d ≡ true → device_asserted d ≡ true → (step d Acknowledge).byte ≡ d.front.ivr
