-- How a device passes ticks in which no clock has a pulse and the counter/timer does not come to its end: how many these
-- are, and the device when some of them have passed. Assumes nothing.
use Rattle.std.specs.Prelude.{ℕ, ◌/◌, ◌%◌, min, eqb}
use Rattle.format.specs.declared.counts.Ticks.{Ticks}
use Rattle.clocks.specs.Channel.{side_room, channel_passed}
use Rattle.timer_state.specs.Counting.{mode_of}
use Rattle.timer.specs.Passing.{timer_room, timer_passed}
use Rattle.front_side.specs.declared.side.Side.{Side}
use Rattle.front_side.specs.Side.{with_clocks}
use Rattle.front.specs.declared.front.Front.{Front}
use Rattle.front.specs.Front.{with_sides}
use Rattle.chip_device.specs.declared.device.Device.{Device}
use Rattle.chip_fast.specs.declared.passing.Counts.{Counts}

-- "CSR bits 7-4 receiver, 3-0 transmitter."; the set is ACR bit 7's
abbrev pub channel_room : Side → ℕ → ℕ
channel_room s acr =
    min (side_room s.phases.receiver (eqb (acr / 128) 1) (s.csr / 16)).0
    (side_room s.phases.transmitter (eqb (acr / 128) 1) (s.csr % 16)).0

-- the room of the whole: the least of the counter/timer's and of the four clocks'
abbrev pub front_room : Front → ℕ
front_room f =
    min (timer_room f.timer (mode_of f.acr)).0 (min (channel_room f.a f.acr) (channel_room f.b f.acr))

abbrev pub side_on : Side → Ticks → Side
side_on s ticks = with_clocks s s.csr (channel_passed s.phases s.csr ticks)

abbrev pub front_on : Front → Ticks → Front
front_on f ticks =
    with_sides f (side_on f.a ticks) (side_on f.b ticks) (timer_passed f.timer (mode_of f.acr) ticks)

-- what moves, as the code has it
abbrev pub counts_passed : Front → Ticks → Counts
counts_passed f ticks =
    let x : Front = front_on f ticks in
    record {
      rxca = x.a.phases.receiver;
      txca = x.a.phases.transmitter;
      rxcb = x.b.phases.receiver;
      txcb = x.b.phases.transmitter;
      count = x.timer.count;
      ticks = x.timer.ticks;
    }

-- so many ticks later, within the room: the phases and the count move, and nothing else
unfoldable pub passed_of : Device → Ticks → Device
passed_of d ticks = record { front = front_on d.front ticks; a = d.a; b = d.b }
