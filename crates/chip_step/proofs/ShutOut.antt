-- Wrong answers, each shut out by a definition: a routine that gave it would not meet its contract. Assumes nothing.
use mathlib.Core.Path.{◌≡◌}
use mathlib.Core.Bool.{false, false≢true}
use native.Mathlib.Omega.{arith}
use Rattle.format.specs.Pick.{pick}
use Rattle.front_side.specs.Side.{fresh_side}
use Rattle.front_modes.specs.Modes.{txd_shown}
use Rattle.front.specs.Front.{front_at}
use Rattle.front_writes.specs.Writes.{shared_written, register_written}
use Rattle.chip_answers.specs.Answers.{lines_of}
use Rattle.events.specs.declared.events.Event.{Event}
use Rattle.events.specs.declared.events.Event.TheVariants.{Write}
use Rattle.front_events.specs.FrontEvents.{front_stepped}
use Rattle.chip_device.specs.declared.device.Device.{Device}
use Rattle.chip_device.specs.Device.{fresh_device}
use Rattle.chip_step.specs.Chip.{taken_of, refusal_lines}

-- "12 IVR (both)": a write of it is lost, as is all else that an event does to the front
no_front_stands_still : ((d : Device) (e : Event) → d.front.ivr ≡ (taken_of d e).state.front.ivr) → ⊥
unfolding taken_of front_stepped register_written shared_written fresh_device front_at pick
no_front_stands_still h = omega (arith, h fresh_device (Write 12 7))

-- "lines as that state drives them (for 1, all lines 0)": this one puts them at 0 for 2 as well
no_refusal_of2_dark : false ≡ (refusal_lines fresh_device 2).txda → ⊥
unfolding refusal_lines lines_of txd_shown fresh_device front_at fresh_side pick
no_refusal_of2_dark = false≢true
