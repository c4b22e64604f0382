-- The step of the loop is the single step where the device is sound, and a sound device stays sound. Assumes nothing.
use mathlib.Core.Path.{◌≡◌}
use mathlib.Core.Bool.{true}
use Rattle.chip_device.specs.declared.device.Device.{Device}
use Rattle.chip_device.specs.Device.{is_sound_of}
use Rattle.records.specs.declared.records.EventRecord.{EventRecord}
use Rattle.records.specs.Records.{event_of}
use Rattle.chip_laws.proofs.Lists.{step_sound}
use Rattle.chip_fast.proofs.Laws.Ticked.{sound_answer_lem}
use Rattle.poll.specs.Step.{turn_of, single_of}

pub turn_single : (d : Device) (e : EventRecord) → is_sound_of d ≡ true → turn_of d e ≡ single_of d e
unfolding turn_of single_of
turn_single d e s = sound_answer_lem d (event_of e) s

pub stays_sound : (d : Device) (e : EventRecord) → is_sound_of d ≡ true → is_sound_of (single_of d e).state ≡ true
unfolding single_of
stays_sound d e s = step_sound d (event_of e) s
