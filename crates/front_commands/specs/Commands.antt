-- "Command: bit 7 ignored; bits 6-4 first, then 3-2 (01 enable, 10 disable transmitter), then 1-0 (receiver)." Assumes
-- nothing.
use Rattle.std.specs.Prelude.{ℕ, ◌/◌, ◌%◌, Bool, not, ◌&&◌, ◌||◌, eqb}
use Rattle.format.specs.Pick.{pick}
use Rattle.feed.specs.declared.feed.Effect.{Effect}
use Rattle.feed.specs.declared.feed.Effect.TheVariants as Receivers
use Rattle.feed.specs.declared.feed.Enabling.{Enabling}
use Rattle.feed.specs.declared.feed.Enabling.TheVariants.{Stays, Enables, Disables}
use Rattle.feed.specs.declared.feed.Feed.{Feed}
use Rattle.feed.specs.declared.feed.Feed.TheVariants.{Command}
use Rattle.transmitter.specs.declared.transmitter.Input.{Input}
use Rattle.transmitter.specs.declared.transmitter.Input.TheVariants as Transmitters
use Rattle.transmitter.specs.Transmitter.{after_input}
use Rattle.front_side.specs.declared.side.Side.{Side}
use Rattle.front_side.specs.Side.{with_enabled, with_transmitter, with_echo, pointed_at}
use Rattle.front_commands.specs.declared.commands.Action.{Action}
use Rattle.front_commands.specs.declared.commands.Action.TheVariants.{Nothing, PointAtMr1, ResetReceiver, ResetTransmitter}
use Rattle.front_commands.specs.declared.commands.Action.TheVariants.{ClearErrors, ClearBreakChange, StartBreak, StopBreak}

-- ---- bits 6-4 ----

abbrev pub effect_bits : ℕ → ℕ
effect_bits byte = byte / 16 % 8

-- the bits that stand for what they ask for
abbrev pub bits_of : Action → ℕ
bits_of Nothing = 0
bits_of PointAtMr1 = 1
bits_of ResetReceiver = 2
bits_of ResetTransmitter = 3
bits_of ClearErrors = 4
bits_of ClearBreakChange = 5
bits_of StartBreak = 6
bits_of StopBreak = 7

-- "3 reset transmitter (disabled, all dropped, TxD high)"; "6, 7 start, stop break"
unfoldable pub transmitter_effect : ℕ → Input
transmitter_effect bits =
    pick (eqb bits 3) Transmitters.Reset
    (pick (eqb bits 6) Transmitters.StartBreak
    (pick (eqb bits 7) Transmitters.StopBreak Transmitters.Nothing))

-- "2 reset receiver"; "4 clear overrun, block sums and the top character's marks; 5 clear break change"
unfoldable pub receiver_effect : ℕ → Effect
receiver_effect bits =
    pick (eqb bits 2) Receivers.Reset
    (pick (eqb bits 4) Receivers.ClearErrors
    (pick (eqb bits 5) Receivers.ClearBreakChange Receivers.NoEffect))

-- "2 reset receiver (disabled; .. overrun mark stays)": the enable after bits 6-4
abbrev pub enabled_then : Bool → ℕ → Bool
enabled_then enabled effect = enabled && not (eqb effect 2)

-- ---- bits 3-2 ----

-- "01 enable, 10 disable transmitter"
unfoldable pub transmitter_enabling : ℕ → Input
transmitter_enabling bits =
    pick (eqb bits 1) Transmitters.Enable (pick (eqb bits 2) Transmitters.Disable Transmitters.Nothing)

-- ---- bits 1-0 ----

-- of a receiver that is enabled or not: "Enabling it again changes nothing."
unfoldable pub receiver_enabling : Bool → ℕ → Enabling
receiver_enabling enabled bits = pick (eqb bits 1) (pick enabled Stays Enables) (pick (eqb bits 2) Disables Stays)

abbrev pub enabled_after : Bool → ℕ → Bool
enabled_after enabled bits = eqb bits 1 || (enabled && not (eqb bits 2))

-- ---- the echoed level ----

-- order 2, of a receiver that is enabled or not, bits 6-4 and 1-0: "(high while disabled)", so it is high of one that is
-- off, and a reset or a disable raises it; "3 reset transmitter (.., TxD high)"
abbrev pub echo_after : Bool → Bool → ℕ → ℕ → Bool
echo_after enabled echo effect bits = not enabled || echo || eqb effect 2 || eqb effect 3 || eqb bits 2

-- ---- the command ----

-- the side; "1 pointer to MR1"
unfoldable pub side_commanded : Side → ℕ → Side
side_commanded s byte =
    pointed_at
    (with_echo
    (with_enabled
    (with_transmitter s (after_input (after_input s.transmitter (transmitter_effect (effect_bits byte)))
    (transmitter_enabling (byte / 4 % 4))))
    (enabled_after (enabled_then s.enabled (effect_bits byte)) (byte % 4)))
    (echo_after s.enabled s.echo (effect_bits byte) (byte % 4)))
    (s.moved && not (eqb (effect_bits byte) 1))

-- the receiver
unfoldable pub command_feed : Side → ℕ → Feed
command_feed s byte =
    Command (receiver_effect (effect_bits byte))
    (receiver_enabling (enabled_then s.enabled (effect_bits byte)) (byte % 4))
