-- Order 6: "From a sound state and a list of up to 1,000,000 events, write a value change dump (IEEE 1364) into lent
-- space". Assumes nothing.
use Rattle.std.specs.Prelude.{ℕ, List, ◌++◌, map, eqb, ltb, length, drop}
use Rattle.format.specs.Pick.{pick}
use Rattle.events.specs.declared.events.Event.{Event}
use Rattle.chip_device.specs.declared.device.Device.{Device}
use Rattle.chip_device.specs.Device.{is_sound_of}
use Rattle.chip_step.specs.Chip.{step_of}
use Rattle.vcd_text.specs.Changes.{dump_text}
use Rattle.vcd_dump.specs.declared.dumping.DumpAnswer.{DumpAnswer}
use Rattle.vcd_dump.specs.Waves.{values_of, events_of, waves_from}

-- the text of a list of events; and of one that lies as bytes
abbrev pub events_text : Device → List Event → List ℕ
events_text d es = dump_text (map values_of (waves_from step_of d es))

unfoldable pub text_of : Device → List ℕ → List ℕ
text_of d bytes = events_text d (events_of bytes)

-- "Refusals, in this order: 1, 9 for a longer list, 8 for short space": of a device, of so many events, with a text
-- and a space so long
unfoldable pub dump_refusal : Device → ℕ → ℕ → ℕ → ℕ
dump_refusal d events text space = pick (is_sound_of d) (pick (ltb 1000000 events) 9 (pick (ltb space text) 8 0)) 1

abbrev pub number_of : Device → List ℕ → ℕ → ℕ
number_of d bytes space = dump_refusal d (length (events_of bytes)) (length (text_of d bytes)) space

-- "answers the length (0 if refused)"
unfoldable pub dumped_of : Device → List ℕ → ℕ → DumpAnswer
dumped_of d bytes space =
    record {
      number = number_of d bytes space;
      length = pick (eqb (number_of d bytes space) 0) (length (text_of d bytes)) 0;
    }

-- The space then: the text, and past it what it held; a refused call writes nothing ("8 for short space, which then
-- stays").
unfoldable pub space_after : Device → List ℕ → List ℕ → List ℕ
space_after d bytes s =
    pick (eqb (number_of d bytes (length s)) 0) (text_of d bytes ++ drop (length (text_of d bytes)) s) s
