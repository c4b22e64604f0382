-- The short ways of a tick. Assumes nothing.
use Rattle.std.specs.Prelude.{min, Bool, true, false, ltb}
use Rattle.format.specs.declared.counts.Ticks.{Ticks}
use Rattle.format.specs.Pick.{pick}
use Rattle.events.specs.declared.events.Event.{Event}
use Rattle.events.specs.declared.events.Event.TheVariants.{ChipReset, Read, Write, Acknowledge, Pins, Tick}
use Rattle.chip_device.specs.declared.device.Device.{Device}
use Rattle.chip_device.specs.Device.{device_lines}
use Rattle.chip_step.specs.declared.chip.Answer.{Answer}
use Rattle.chip_step.specs.Chip.{taken_of, step_of}
use Rattle.chip_fast.specs.declared.fast.Hopped.{Hopped}
use Rattle.chip_fast.specs.Passing.{front_room, passed_of}

unfoldable pub is_tick : Event → Bool
is_tick ChipReset = false
is_tick (Read n) = false
is_tick (Write n byte) = false
is_tick Acknowledge = false
is_tick (Pins levels) = false
is_tick Tick = true

-- accepted, no data, "lines as that state drives them"
unfoldable pub at_rest : Device → Answer
at_rest d = record { number = 0; byte = 0; fresh = false; lines = device_lines d; state = d }

-- the state after any tick, by the chip's own rule
abbrev pub full_of : Device → Device
full_of d = (taken_of d Tick).state

-- a tick of a device that is known to be sound: where there is room one tick passes, and no line changes
unfoldable pub sound_tick : Device → Answer
sound_tick d = at_rest (pick (ltb 0 (front_room d.front)) (passed_of d (record { 0 = 1 })) (full_of d))

-- one event of a device that is known to be sound
unfoldable pub sound_answer : Device → Event → Answer
sound_answer d e = pick (is_tick e) (sound_tick d) (step_of d e)

-- as many still ticks as there is room for, at most so many, and then one of any kind
abbrev hop_with : Device → Ticks → Hopped
hop_with d still = record { still = still; state = full_of (passed_of d still) }

unfoldable pub hop_of : Device → Ticks → Hopped
hop_of d most = hop_with d (record { 0 = min (front_room d.front) most.0 })
