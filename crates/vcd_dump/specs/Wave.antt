-- How the code goes: where the writing stands, and what is left to write. Nothing here must be believed of a dump.
-- Assumes nothing.
use Rattle.std.specs.Prelude.{ℕ, ◌+◌, ◌*◌, ◌≡◌, Bool, List, [], map, eqb, get_or}
use Rattle.format.specs.Pick.{pick}
use Rattle.format.specs.Digits.{value_of}
use Rattle.events.specs.declared.events.Event.{Event}
use Rattle.chip_answers.specs.declared.answers.Lines.{Lines}
use Rattle.chip_device.specs.declared.device.Device.{Device}
use Rattle.chip_step.specs.Chip.{step_of}
use Rattle.records.specs.declared.records.EventRecord.{EventRecord}
use Rattle.text.specs.declared.putting.Page.{Page}
use Rattle.text.specs.Puts.{Writes}
use Rattle.vcd_text.specs.Changes.{waves_text}
use Rattle.vcd_text.specs.Words.{written_before, changes_text}
use Rattle.vcd_dump.specs.declared.waves.Wave.{Wave}
use Rattle.vcd_dump.specs.Waves.{values_of, waves_from}

-- record i of a list of bytes, three to a record
abbrev pub record_at : List ℕ → ℕ → EventRecord
record_at bytes i =
    record { kind = get_or bytes (3 * i) 0; reg = get_or bytes (3 * i + 1) 0; byte = get_or bytes (3 * i + 2) 0 }

-- what is written when the time ends that a wave stands at
abbrev pub end_text : Wave → List ℕ
end_text w = changes_text w.tick w.before w.values

-- after an accepted event: a tick begins a time of its own
unfoldable pub wave_after : Wave → Bool → Lines → Wave
wave_after w tick l =
    record {
      tick = pick tick (w.tick + 1) w.tick;
      before = pick tick w.values w.before;
      values = value_of (values_of l);
    }

pub record Adds (w : Wave) (tick : Bool) (l : Lines) (before after : Page) (r : Wave) : Type 0 where
  pub wave : r ≡ wave_after w tick l
  pub writes : Writes (pick tick (end_text w) []) before after

-- the text that is left of a wave, from a device and the events that are left
unfoldable pub rest_of : Wave → Device → List Event → List ℕ
rest_of w d es =
    waves_text w.tick (written_before (eqb w.tick 0) 11 w.before) (map values_of (waves_from step_of d es))
