-- Order 2, automatic echo and "the same echo" of remote loopback, of any sound device, reached or not: "no character or
-- break starts; at each pulse of an enabled receiver TxD takes the sampled level (high while disabled)"; "Remote
-- loopback: .. no character is put together." Said of any way `step` to answer an event. Assumes nothing.
use Rattle.std.specs.Prelude.{ℕ, ◌/◌, ◌%◌, ◌≡◌, Bool, true, false, ◌||◌, eqb}
use Rattle.byte_bits.specs.Bytes.{has_bit}
use Rattle.clocks.specs.Pulses.Side.{receives}
use Rattle.front.specs.declared.front.Front.{Front}
use Rattle.events.specs.Command.{command_forbidden}
use Rattle.events.specs.declared.events.Event.{Event}
use Rattle.events.specs.declared.events.Event.TheVariants.{Read, Write}
use Rattle.chip_device.specs.declared.device.Device.{Device}
use Rattle.chip_device.specs.Device.{is_sound_of}
use Rattle.chip_laws.specs.Table.{Step}
use Rattle.demands.specs.Chip.{Channel, of_channel, register_of}
use Rattle.demands.specs.Clocks.{side_of, pulsed_by}
use Rattle.demands.specs.Pulses.{clocks}
use Rattle.demands.specs.Loops.{receiver_of, txd_in}

-- MR2 bits 7-6: 01 automatic echo, 11 remote loopback
abbrev pub mode_on : Channel → Front → ℕ
mode_on ch f = (side_of ch f).mr2 / 64 % 4

abbrev pub echoes_on : Channel → Front → Bool
echoes_on ch f = eqb (mode_on ch f) 1 || eqb (mode_on ch f) 3

pub record Echoing (step : Step) : Type 0 where
  -- "(high while disabled)", after any event
  pub disabled : (ch : Channel) (d : Device) (e : Event) → is_sound_of d ≡ true
      → echoes_on ch (step d e).state.front ≡ true → (side_of ch (step d e).state.front).enabled ≡ false
      → txd_in ch (step d e).lines ≡ true
  -- a command to a receiver that is off, one that enables it among them, leaves TxD high: no pulse has come yet
  pub enables : (ch : Channel) (d : Device) (byte : ℕ) → is_sound_of d ≡ true → echoes_on ch d.front ≡ true
      → (side_of ch d.front).enabled ≡ false → command_forbidden byte ≡ false
      → txd_in ch (step d (Write (register_of ch 2) byte)).lines ≡ true
  -- "at each pulse of an enabled receiver TxD takes the sampled level", and not between them
  pub taken : (ch : Channel) (d : Device) (e : Event) → is_sound_of d ≡ true → clocks e ≡ true
      → echoes_on ch d.front ≡ true → (side_of ch d.front).enabled ≡ true
      → pulsed_by receives ch d.front e ≡ true
      → txd_in ch (step d e).lines ≡ has_bit (step d e).state.front.inputs.levels (of_channel ch 6 7)
  pub stays : (ch : Channel) (d : Device) (e : Event) → is_sound_of d ≡ true → clocks e ≡ true
      → echoes_on ch d.front ≡ true → pulsed_by receives ch d.front e ≡ false
      → txd_in ch (step d e).lines ≡ txd_in ch (step d (Read 1)).lines
  -- "no character or break starts", and what may be under way stands still
  pub sender : (ch : Channel) (d : Device) (e : Event) → is_sound_of d ≡ true → clocks e ≡ true
      → echoes_on ch d.front ≡ true
      → (side_of ch (step d e).state.front).transmitter ≡ (side_of ch d.front).transmitter
  -- "no character is put together"
  pub receiver : (ch : Channel) (d : Device) (e : Event) → is_sound_of d ≡ true → clocks e ≡ true
      → mode_on ch d.front ≡ 3 → receiver_of ch (step d e).state ≡ receiver_of ch d
