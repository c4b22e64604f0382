-- A side in a tick or a pin event. Assumes nothing.
use Rattle.std.specs.Prelude.{ℕ, ◌/◌, ◌%◌, Bool, not, ◌&&◌, ◌||◌}
use Rattle.format.specs.Format.{format_of}
use Rattle.format.specs.Pick.{pick}
use Rattle.clocks.specs.declared.channel.Clocked.{Clocked}
use Rattle.clocks.specs.Channel.{is_sixteen, clocked_of}
use Rattle.inputs.specs.declared.inputs.ChannelPins.{ChannelPins}
use Rattle.feed.specs.declared.feed.Feed.{Feed}
use Rattle.feed.specs.declared.feed.Feed.TheVariants.{Nothing, Pulse}
use Rattle.feed.specs.declared.feed.Setting.{Setting}
use Rattle.transmitter_state.specs.declared.state.Transmitter.{Transmitter}
use Rattle.transmitter.specs.declared.transmitter.Input.TheVariants as Input
use Rattle.transmitter.specs.Transmitter.{after_input}
use Rattle.front_side_clocks.specs.declared.clocking.Clocking.{Clocking}
use Rattle.front_side.specs.declared.side.Side.{Side}
use Rattle.front_side.specs.Side.{with_transmitter, with_echo, with_clocks}
use Rattle.front_modes.specs.Modes.{local_mode, remote_mode, echo_mode}

-- A pulse finds the mode registers, 16X or 1X and CTS as they stand. In the echo modes it does nothing: order 2, "no
-- character or break starts".
unfoldable pub transmitter_pulsed : Side → Bool → Bool → Transmitter
transmitter_pulsed s pulse cts =
    pick (pulse && not (echo_mode s.mr2))
    (after_input s.transmitter
    (Input.Pulse (record { mr1 = s.mr1; mr2 = s.mr2; sixteen = is_sixteen (s.csr % 16); cts = cts })))
    s.transmitter

-- order 2: "at each pulse of an enabled receiver TxD takes the sampled level"
unfoldable pub echo_taken : Side → Bool → Bool → Bool
echo_taken s pulse rxd = pick (pulse && s.enabled && echo_mode s.mr2) rxd s.echo

-- "Format and 16X or 1X are taken when a character starts (receiver: at its low pulse p)": a pulse carries them as they
-- stand, in MR1 and in the code of its clock
abbrev pub setting_of : ℕ → ℕ → Setting
setting_of mr1 code = record { format = format_of mr1; sixteen = is_sixteen code }

-- a pulse of a clock with this code, and the level that it finds
unfoldable pub pulse_of : ℕ → ℕ → Bool → Bool → Feed
pulse_of mr1 code pulse level = pick pulse (Pulse level (setting_of mr1 code)) Nothing

-- What a receiver is handed, by its channel's mode; a pulse reaches an enabled one only. "CSR bits 7-4 receiver, 3-0
-- transmitter."; order 2: "the receiver takes the transmitter's level and its clock", after the transmitter's pulse;
-- "Remote loopback: .. no character is put together".
unfoldable pub line_of : Side → Bool → Bool → Bool → Feed
line_of s receiver transmitter rxd =
    pick (not s.enabled || remote_mode s.mr2) Nothing
    (pick (local_mode s.mr2) (pulse_of s.mr1 (s.csr % 16) transmitter s.transmitter.txd)
    (pulse_of s.mr1 (s.csr / 16) receiver rxd))

-- "transmitter then receiver of A; the same of B"
unfoldable pub side_clocked : Side → Bool → ChannelPins → Bool → Bool → Clocking
side_clocked s second pins tick toggled =
    let c : Clocked = clocked_of s.phases second s.csr
    (record { tick = tick; toggled = toggled; rising = pins.rising; falling = pins.falling }) in
    let sent : Side = with_clocks
    (with_echo (with_transmitter s (transmitter_pulsed s c.transmitter pins.cts))
    (echo_taken s c.receiver pins.rxd))
    s.csr c.phases in
    record { side = sent; feed = line_of sent c.receiver c.transmitter pins.rxd; one = c.one }
