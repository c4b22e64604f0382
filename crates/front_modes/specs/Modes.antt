-- A channel's mode, MR2 bits 7-6 (order 2; source 004: 00 normal, 01 automatic echo, 10 local loopback, 11 remote
-- loopback): what TxD and the transmitter's status bits show, and what a change of mode does. Assumes nothing.
use Rattle.std.specs.Prelude.{ℕ, ◌/◌, ◌%◌, Bool, true, false, not, ◌&&◌, ◌||◌, eqb}
use Rattle.format.specs.Pick.{pick}
use Rattle.feed.specs.declared.feed.Effect.TheVariants.{NoEffect}
use Rattle.feed.specs.declared.feed.Enabling.TheVariants.{Enables}
use Rattle.feed.specs.declared.feed.Feed.{Feed}
use Rattle.feed.specs.declared.feed.Feed.TheVariants.{Nothing, Command}
use Rattle.transmitter.specs.declared.status.TransmitterStatus.{TransmitterStatus}
use Rattle.transmitter.specs.declared.transmitter.Input.TheVariants.{ModeChange}
use Rattle.transmitter.specs.Status.{status_of}
use Rattle.transmitter.specs.Transmitter.{after_input}
use Rattle.front_side.specs.declared.side.Side.{Side}
use Rattle.front_modes.specs.declared.modes.ChannelMode.{ChannelMode}
use Rattle.front_modes.specs.declared.modes.ChannelMode.TheVariants.{Normal, Echo, Local, Remote}
use Rattle.front_side.specs.Side.{with_transmitter, with_echo, mode_written}

-- ---- the modes ----

abbrev pub channel_mode : ℕ → ℕ
channel_mode mr2 = mr2 / 64 % 4

-- the bits that stand for a mode
abbrev pub bits_of : ChannelMode → ℕ
bits_of Normal = 0
bits_of Echo = 1
bits_of Local = 2
bits_of Remote = 3

-- "Local loopback: the receiver takes the transmitter's level and its clock, TxD stays high, RxD is ignored"
abbrev pub local_mode : ℕ → Bool
local_mode mr2 = eqb (channel_mode mr2) 2

-- "Remote loopback: the same echo, and no character is put together."
abbrev pub remote_mode : ℕ → Bool
remote_mode mr2 = eqb (channel_mode mr2) 3

-- "Automatic echo: no character or break starts": 01, and 11 has "the same echo"
abbrev pub echo_mode : ℕ → Bool
echo_mode mr2 = eqb (channel_mode mr2 % 2) 1

-- ---- what is shown ----

-- The pin TxD, by MR2, the receiver's enable, the echoed level and the transmitter's. "TxD stays high"; "at each pulse of
-- an enabled receiver TxD takes the sampled level (high while disabled)"; in normal mode it is the transmitter's level.
unfoldable pub txd_shown : ℕ → Bool → Bool → Bool → Bool
txd_shown mr2 enabled echo level = pick (local_mode mr2) true (pick (echo_mode mr2) (not enabled || echo) level)

-- of a side
abbrev pub txd_of : Side → Bool
txd_of s = txd_shown s.mr2 s.enabled s.echo s.transmitter.txd

-- "TxRDY and TxEMT read 0"
unfoldable pub sender_shown : Side → TransmitterStatus
sender_shown s =
    pick (echo_mode s.mr2) (record { ready = false; empty = false }) (status_of s.transmitter)

-- ---- a change of mode ----

-- "A mode change" is a write to MR2 of other bits 7-6 than those in force
abbrev pub changes_mode : Side → ℕ → Bool
changes_mode s byte = s.moved && not (eqb (channel_mode byte) (channel_mode s.mr2))

-- a write of the mode registers: "A mode change drops what is being sent (a break too; the holding place stays) .., and
-- holds TxD high until the next pulse."
unfoldable pub mode_set : Side → ℕ → Side
mode_set s byte =
    pick (changes_mode s byte)
    (with_echo (with_transmitter (mode_written s byte) (after_input s.transmitter ModeChange)) true)
    (mode_written s byte)

-- what the receiver is handed: "drops what is being .. put together, leaves an enabled receiver as just enabled"; to a
-- disabled one it is handed too, and shows in no answer: enabling drops what it drops
unfoldable pub mode_feed : Side → ℕ → Feed
mode_feed s byte = pick (changes_mode s byte) (Command NoEffect Enables) Nothing
