-- What gives each side of a channel its pulses. Assumes nothing.
use Rattle.std.specs.Prelude.{ℕ, ◌+◌, ◌/◌, ◌%◌, ◌^◌, Bool, true, false, not, ◌==◌, nat_lt}
use Rattle.format.specs.declared.counts.Pulses.{Pulses}
use Rattle.format.specs.declared.counts.Ticks.{Ticks}
use Rattle.format.specs.Pick.{pick}
use Rattle.dividers.specs.declared.divider.Divided.{Divided}
use Rattle.dividers.specs.Divider.{divided_of, sixteenth_of, room_of, far_off}
use Rattle.dividers.specs.Rates.{period_of}
use Rattle.clocks.specs.declared.channel.ClockEvent.{ClockEvent}
use Rattle.clocks.specs.declared.channel.Clocked.{Clocked}
use Rattle.clocks.specs.declared.channel.Phases.{Phases}

-- "A CSR write restarts that channel's phases, the next pulse coming a full period later"; a chip reset too: "phase,
-- flag, mark, last byte read and output bit 0"
abbrev pub restarted : Phases
restarted = record { receiver = record { 0 = 0 }; transmitter = record { 0 = 0 }; sixteenths = record { 0 = 0 } }

-- "a change of ACR bit 7 restarts all four"
unfoldable pub restarted_on_change : Phases → ℕ → ℕ → Phases
restarted_on_change p before after = pick (before / 128 == after / 128) p restarted

-- "14 (16X), 15 (1X)": every code but 15 gives 16X pulses
abbrev pub is_sixteen : ℕ → Bool
is_sixteen code = not (code == 15)

-- a side's divider in an event: only a tick moves it
unfoldable pub ticked_of : Ticks → Ticks → Bool → Divided Ticks
ticked_of phase period tick = pick tick (divided_of phase period) (record { phase = phase; pulse = false })

-- One side in an event: its divider for codes 0 to 12; "13: the timer's toggle to high"; "14 (16X), 15 (1X)": its pin's
-- edge.
unfoldable pub side_of : Ticks → Bool → ℕ → ClockEvent → Bool → Divided Ticks
side_of phase second code b edge =
    pick (nat_lt code 13) (ticked_of phase (period_of second code) b.tick)
    (pick (code == 13) (record { phase = phase; pulse = b.toggled })
    (record { phase = phase; pulse = edge }))

-- the 1X transmitter clock: "every 16th 16X pulse since that phase restarted, or each 1X pulse"
unfoldable pub transmitter1x : Pulses → ℕ → Bool → Divided Pulses
transmitter1x phase code pulse =
    pick pulse
    (pick (is_sixteen code) (sixteenth_of phase) (record { phase = phase; pulse = true }))
    (record { phase = phase; pulse = false })

-- "CSR bits 7-4 receiver, 3-0 transmitter."; "receiver on a rising edge .. transmitter on a falling edge"
unfoldable pub clocked_of : Phases → Bool → ℕ → ClockEvent → Clocked
clocked_of p second csr b =
    let receiver : Divided Ticks = side_of p.receiver second (csr / 16) b b.rising in
    let transmitter : Divided Ticks = side_of p.transmitter second (csr % 16) b b.falling in
    let bit : Divided Pulses = transmitter1x p.sixteenths (csr % 16) transmitter.pulse in
    record {
      phases = record { receiver = receiver.phase; transmitter = transmitter.phase; sixteenths = bit.phase };
      receiver = receiver.pulse;
      transmitter = transmitter.pulse;
      one = bit.pulse;
    }

-- ---- ticks without a pulse ----

-- The room before a side's pulse: its divider's. No tick is a pin's edge, and "the timer's toggle to high" is the
-- counter/timer's end, which has a room of its own.
unfoldable pub side_room : Ticks → Bool → ℕ → Ticks
side_room phase second code = pick (nat_lt code 13) (room_of phase (period_of second code)) far_off

-- its phase when so many ticks have passed within that room: only a divider's moves
unfoldable pub side_passed : Ticks → ℕ → Ticks → Ticks
side_passed phase code ticks = pick (nat_lt code 13) (record { 0 = (phase.0 + ticks.0) % 2 ^ 64 }) phase

-- a channel's phases then: "CSR bits 7-4 receiver, 3-0 transmitter."
abbrev pub channel_passed : Phases → ℕ → Ticks → Phases
channel_passed p csr ticks =
    record {
      receiver = side_passed p.receiver (csr / 16) ticks;
      transmitter = side_passed p.transmitter (csr % 16) ticks;
      sixteenths = p.sixteenths;
    }
