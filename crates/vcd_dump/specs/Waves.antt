-- The values of each time. Assumes nothing.
use Rattle.std.specs.Prelude.{ℕ, Bool, not, List, [], ◌∷◌, map, eqb}
use Rattle.format.specs.Pick.{pick}
use Rattle.format.specs.Digits.{bits_of}
use Rattle.events.specs.declared.events.Event.{Event}
use Rattle.chip_answers.specs.declared.answers.Lines.{Lines}
use Rattle.chip_device.specs.declared.device.Device.{Device}
use Rattle.chip_device.specs.Device.{device_lines}
use Rattle.chip_laws.specs.Table.{Step}
use Rattle.chip_fast.specs.Fast.{is_tick}
use Rattle.records.specs.declared.records.EventRecord.{EventRecord}
use Rattle.records.specs.Records.{event_of}

-- "TxDA, TxDB, IRQ as line level (asserted is 0) and OP0 to OP7"
abbrev pub values_of : Lines → List Bool
values_of l = l.txda ∷ l.txdb ∷ not l.irq ∷ bits_of 8 l.op

-- A list of events lies as bytes, three to a record; one or two that are left over are no event.
unfoldable pub records_of : List ℕ → List EventRecord
records_of [] = []
records_of (k ∷ []) = []
records_of (k ∷ r ∷ []) = []
records_of (k ∷ r ∷ b ∷ bytes) = record { kind = k; reg = r; byte = b } ∷ records_of bytes

abbrev pub events_of : List ℕ → List Event
events_of bytes = map event_of (records_of bytes)

-- The lines that count at time 0, and then at the time of each tick: "Events without a tick share the time of the last
-- one; at each time only the last values count". "It stops before a refused event".
unfoldable pub waves_from : Step → Device → List Event → List Lines
waves_from step d [] = device_lines d ∷ []
waves_from step d (e ∷ es) =
    let later : List Lines = waves_from step (step d e).state es in
    pick (eqb (step d e).number 0) (pick (is_tick e) (device_lines d ∷ later) later) (device_lines d ∷ [])
