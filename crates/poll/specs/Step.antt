-- The single step on records, and the step of the loop. Assumes nothing.
use Rattle.chip_device.specs.declared.device.Device.{Device}
use Rattle.chip_step.specs.declared.chip.Answer.{Answer}
use Rattle.chip_step.specs.Chip.{step_of}
use Rattle.chip_fast.specs.Fast.{sound_answer}
use Rattle.records.specs.declared.records.EventRecord.{EventRecord}
use Rattle.records.specs.Records.{event_of}

-- what the chip answers to a record
unfoldable pub single_of : Device → EventRecord → Answer
single_of d e = step_of d (event_of e)

-- what the loop's step answers: the same, where the device is sound. Nothing here must be believed of the chip
unfoldable pub turn_of : Device → EventRecord → Answer
turn_of d e = sound_answer d (event_of e)
