-- Order 2, local loopback: "the receiver takes the transmitter's level and its clock, .. RxD is ignored". What is looped
-- back is on no pin, so that this ties it to one: of two devices whose fronts differ in one channel's MR2 bits 7-6 alone,
-- local loopback and normal mode, over the same events without a write to its mode registers, what the one's receiver
-- hears at a pulse is what the other's TxD shows. Assumes nothing.
use Rattle.std.specs.Prelude.{ℕ, ◌/◌, ◌%◌, ◌≡◌, Bool, true, false, not, ◌&&◌, List, eqb}
use Rattle.format.specs.Format.{format_of}
use Rattle.format.specs.Pick.{pick}
use Rattle.feed.specs.declared.feed.Feed.{Feed}
use Rattle.feed.specs.declared.feed.Feed.TheVariants as Feeds
use Rattle.receiver_state.specs.declared.arrivals.Receiver.{Receiver}
use Rattle.receiver.specs.Receiver.{fed_of}
use Rattle.clocks.specs.Channel.{is_sixteen}
use Rattle.clocks.specs.Pulses.Side.{transmits}
use Rattle.front_side.specs.declared.side.Side.{Side}
use Rattle.front_side.specs.Side.{with_modes}
use Rattle.front.specs.declared.front.Front.{Front}
use Rattle.front.specs.Front.{with_sides}
use Rattle.events.specs.declared.events.Event.{Event}
use Rattle.events.specs.declared.events.Event.TheVariants.{ChipReset, Read, Write, Acknowledge, Pins, Tick}
use Rattle.chip_answers.specs.declared.answers.Lines.{Lines}
use Rattle.chip_device.specs.declared.device.Device.{Device}
use Rattle.chip_device.specs.Device.{is_sound_of}
use Rattle.chip_laws.specs.Table.{Step}
use Rattle.chip_laws.specs.Sound.{after}
use Rattle.demands.specs.Chip.{Channel, of_channel, register_of, each_of}
use Rattle.demands.specs.Chip.Channel.{A, B}
use Rattle.demands.specs.Clocks.{side_of, pulsed_by}
use Rattle.demands.specs.Pulses.{clocks}

-- ---- two fronts ----

-- a front with another MR2 of one channel
abbrev pub with_mr2 : Channel → Front → ℕ → Front
with_mr2 A f mr2 = with_sides f (with_modes f.a f.a.mr1 mr2 f.a.moved) f.b f.timer
with_mr2 B f mr2 = with_sides f f.a (with_modes f.b f.b.mr1 mr2 f.b.moved) f.timer

-- the first is the second but for MR2 bits 7-6: 10 and 00
pub record Apart (ch : Channel) (f g : Front) : Type 0 where
  pub local : (side_of ch f).mr2 / 64 % 4 ≡ 2
  pub normal : (side_of ch g).mr2 / 64 % 4 ≡ 0
  pub below : (side_of ch f).mr2 % 64 ≡ (side_of ch g).mr2 % 64
  pub same : f ≡ with_mr2 ch g (side_of ch f).mr2

-- without a write to its mode registers, and without a chip reset, which writes them too
abbrev pub leaves_modes : Channel → Event → Bool
leaves_modes ch ChipReset = false
leaves_modes ch (Read n) = true
leaves_modes ch (Write n byte) = not (eqb n (register_of ch 0))
leaves_modes ch Acknowledge = true
leaves_modes ch (Pins x) = true
leaves_modes ch Tick = true

-- ---- what is heard, and what is shown ----

abbrev pub receiver_of : Channel → Device → Receiver
receiver_of ch d = of_channel ch d.a d.b

abbrev pub txd_in : Channel → Lines → Bool
txd_in ch l = of_channel ch l.txda l.txdb

-- a pulse of the transmitter's clock to an enabled receiver: this level, MR1's format, and 16X or 1X of CSR bits 3-0
abbrev pub looped_feed : Channel → Front → Event → Bool → Feed
looped_feed ch f e level =
    let s : Side = side_of ch f in
    pick (s.enabled && pulsed_by transmits ch f e)
    (Feeds.Pulse level (record { format = format_of s.mr1; sixteen = is_sixteen (s.csr % 16) }))
    Feeds.Nothing

-- said of any way `step` to answer an event
pub record Loops (step : Step) : Type 0 where
  -- they stay apart so
  pub apart : (ch : Channel) (d g : Device) (es : List Event) → is_sound_of d ≡ true → is_sound_of g ≡ true
      → Apart ch d.front g.front → each_of (leaves_modes ch) es ≡ true
      → Apart ch (after step d es).front (after step g es).front
  -- in a tick or a pin event the looped receiver hears the level that the other one's TxD has after it, or nothing
  pub heard : (ch : Channel) (d g : Device) (es : List Event) (e : Event) → is_sound_of d ≡ true → is_sound_of g ≡ true
      → Apart ch d.front g.front → each_of (leaves_modes ch) es ≡ true → clocks e ≡ true
      → receiver_of ch (step (after step d es) e).state
      ≡ (fed_of (receiver_of ch (after step d es))
      (looped_feed ch (after step d es).front e (txd_in ch (step (after step g es) e).lines))).receiver
  -- and its own TxD is high
  pub high : (ch : Channel) (d g : Device) (es : List Event) → is_sound_of d ≡ true → is_sound_of g ≡ true
      → Apart ch d.front g.front → each_of (leaves_modes ch) es ≡ true
      → txd_in ch (step (after step d es) (Read 1)).lines ≡ true
