-- The clock pulses that an event brings. The front is run alone; no receiver stands in it. Assumes nothing.
use Rattle.std.specs.Prelude.{ℕ, ◌/◌, Bool, true, false, List, eqb}
use Rattle.clocks.specs.declared.channel.Clocked.{Clocked}
use Rattle.clocks.specs.Channel.{clocked_of}
use Rattle.clocks.specs.Pulses.{Side, pulsed}
use Rattle.inputs.specs.declared.inputs.ChannelPins.{ChannelPins}
use Rattle.inputs.specs.Inputs.{moved_of, pins_of_a, pins_of_b}
use Rattle.front_side.specs.declared.side.Side as Sides
use Rattle.front.specs.declared.front.Front.{Front}
use Rattle.front.specs.Front.{front_at, with_ports}
use Rattle.front_clocks.specs.Clocking.{counted_of}
use Rattle.events.specs.declared.events.Event.{Event}
use Rattle.events.specs.declared.events.Event.TheVariants.{ChipReset, Read, Write, Acknowledge, Pins, Tick}
use Rattle.chip_laws.specs.Alone.{handed_after}
use Rattle.demands.specs.Chip.{Channel, of_channel, over}

-- the front after a chip reset with these levels on the pins and then these events
abbrev pub front_then : Front → Event → Front
front_then f e = (handed_after f e).front

abbrev pub front_after : ℕ → List Event → Front
front_after levels es = over front_then (front_at levels) es

abbrev pub side_of : Channel → Front → Sides.Side
side_of ch f = of_channel ch f.a f.b

-- "counter/timer from ticks or IP2; transmitter then receiver of A; the same of B"
unfoldable pub clocks_of : Channel → Front → ℕ → Bool → Clocked
clocks_of ch f before tick =
    let pins : ChannelPins = of_channel ch (pins_of_a before f.inputs.levels) (pins_of_b before f.inputs.levels) in
    clocked_of (side_of ch f).phases (eqb (f.acr / 128) 1) (side_of ch f).csr
    (record { tick = tick; toggled = (counted_of f before tick).toggled; rising = pins.rising; falling = pins.falling })

-- whether an event pulses a channel's receiver, or its transmitter: only a tick or a pin event can
unfoldable pub pulsed_by : Side → Channel → Front → Event → Bool
pulsed_by side ch f ChipReset = false
pulsed_by side ch f (Read n) = false
pulsed_by side ch f (Write n byte) = false
pulsed_by side ch f Acknowledge = false
pulsed_by side ch f (Pins levels) =
    pulsed side (clocks_of ch (with_ports f (moved_of f.inputs levels) f.outputs) f.inputs.levels false)
pulsed_by side ch f Tick = pulsed side (clocks_of ch f f.inputs.levels true)

-- after these events since a chip reset
abbrev pub pulsed_after : Side → Channel → ℕ → List Event → Event → Bool
pulsed_after side ch levels es e = pulsed_by side ch (front_after levels es) e

-- ---- the 1X transmitter clocks ----

-- whether a tick, or a pin event, is a pulse of a channel's 1X transmitter clock: "every 16th 16X pulse since that
-- phase restarted, or each 1X pulse"
abbrev pub tick_one : Channel → ℕ → List Event → Bool
tick_one ch levels es = let f : Front = front_after levels es in (clocks_of ch f f.inputs.levels true).one

abbrev pub pins_one : Channel → ℕ → List Event → ℕ → Bool
pins_one ch levels es x =
    let f : Front = front_after levels es in
    (clocks_of ch (with_ports f (moved_of f.inputs x) f.outputs) f.inputs.levels false).one

-- or any event
unfoldable pub one_after : Channel → ℕ → List Event → Event → Bool
one_after ch levels es ChipReset = false
one_after ch levels es (Read n) = false
one_after ch levels es (Write n byte) = false
one_after ch levels es Acknowledge = false
one_after ch levels es (Pins x) = pins_one ch levels es x
one_after ch levels es Tick = tick_one ch levels es
