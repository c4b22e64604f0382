-- One event, one answer. Assumes nothing.
use Rattle.std.specs.Prelude.{ℕ, Bool, false, not, eqb}
use Rattle.format.specs.Pick.{pick}
use Rattle.chip_answers.specs.declared.answers.Lines.{Lines}
use Rattle.chip_answers.specs.Answers.{no_lines, event_data, event_fresh}
use Rattle.events.specs.declared.events.Event.{Event}
use Rattle.front_events.specs.FrontEvents.{front_stepped}
use Rattle.front.specs.declared.front.Handed.{Handed}
use Rattle.receiver.specs.Receiver.{fed_of}
use Rattle.chip_device.specs.declared.device.Device.{Device}
use Rattle.chip_step.specs.declared.chip.Answer.{Answer}
use Rattle.chip_step.specs.declared.chip.Taken.{Taken}
use Rattle.chip_device.specs.Device.{is_sound_of, shown_a, shown_b, device_lines}
use Rattle.chip_refusals.specs.Refusals.{first_of}

-- What an event does where no row refuses it: the front is stepped, each receiver takes what it is handed, and the data
-- byte is read from the state as it was. The new state, before row 7 looks at it:
unfoldable pub taken_of : Device → Event → Taken
taken_of d e =
    let h : Handed = front_stepped d.front e in
    record {
      state = record { front = h.front; a = (fed_of d.a h.a).receiver; b = (fed_of d.b h.b).receiver };
      byte = event_data d.front (shown_a d) (shown_b d) (fed_of d.a h.a).byte (fed_of d.b h.b).byte e;
      fresh = event_fresh (fed_of d.a h.a).fresh (fed_of d.b h.b).fresh e;
    }

-- 7: "the new state would be unsound"
abbrev pub new_unsound : Device → Event → Bool
new_unsound d e = not (is_sound_of (taken_of d e).state)

-- rows 1 to 7 (row 8 is the frame request's): the first that applies, 0 where none does
unfoldable pub number_of : Device → Event → ℕ
number_of d e = first_of d e (pick (new_unsound d e) 7 0)

-- "Refused: data 0, the state as given, lines as that state drives them (for 1, all lines 0)."; order 1: "a refused read
-- or any other event is stale"
unfoldable pub refusal_lines : Device → ℕ → Lines
refusal_lines d number = pick (eqb number 1) no_lines (device_lines d)

abbrev pub refused_of : Device → ℕ → Answer
refused_of d number = record { number = number; byte = 0; fresh = false; lines = refusal_lines d number; state = d }

abbrev pub accepted_of : Taken → Answer
accepted_of t =
    record { number = 0; byte = t.byte; fresh = t.fresh; lines = device_lines t.state; state = t.state }

unfoldable pub step_of : Device → Event → Answer
step_of d e = pick (eqb (number_of d e) 0) (accepted_of (taken_of d e)) (refused_of d (number_of d e))
