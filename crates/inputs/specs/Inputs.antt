-- The input pins. Assumes nothing.
use Rattle.std.specs.Prelude.{ℕ, ◌+◌, ◌*◌, ◌%◌, Bool, not, ◌&&◌, eqb}
use Rattle.std.specs.Int.Bits.{bit_and, bit_or, bit_xor}
use Rattle.byte_bits.specs.Bytes.{has_bit}
use Rattle.inputs.specs.declared.inputs.ChannelPins.{ChannelPins}
use Rattle.inputs.specs.declared.inputs.Inputs.{Inputs}

-- the edges of a pin, from the levels before an event and after it
abbrev pub rises_of : ℕ → ℕ → ℕ → Bool
rises_of before after pin = not (has_bit before pin) && has_bit after pin

abbrev pub falls_of : ℕ → ℕ → ℕ → Bool
falls_of before after pin = has_bit before pin && not (has_bit after pin)

-- "levels and flags": IP3-IP0 whose level differs from the level before this event
unfoldable pub moved_of : Inputs → ℕ → Inputs
moved_of i levels = record { levels = levels; changes = bit_or i.changes (bit_xor i.levels levels % 16) }

-- "Input port bits 7, 6 read 1."
abbrev pub input_port : Inputs → ℕ
input_port i = i.levels % 64 + 192

-- "IPCR: change flags IP3-IP0, then levels"
abbrev pub change_register : Inputs → ℕ
change_register i = i.changes % 16 * 16 + i.levels % 16

-- "a read clears the flags"
abbrev pub changes_cleared : Inputs → Inputs
changes_cleared i = record { levels = i.levels; changes = 0 }

-- "ISR bit 7: some flag is set whose ACR bit (3-0) is set."
abbrev pub has_chosen_change : Inputs → ℕ → Bool
has_chosen_change i acr = not (eqb (bit_and i.changes (acr % 16)) 0)

-- ---- which pin is whose ----

abbrev pub channel_pins : ℕ → ℕ → ℕ → ℕ → ℕ → ℕ → ChannelPins
channel_pins before after cts rxd receiver transmitter =
    record {
      cts = has_bit after cts;
      rxd = has_bit after rxd;
      rising = rises_of before after receiver;
      falling = falls_of before after transmitter;
    }

-- "CTS (if chosen; IP0 for A, IP1 for B)"; "6 RxDA, 7 RxDB"; "receiver on a rising edge (A IP4, B IP2), transmitter on
-- a falling edge (A IP3, B IP5)"
unfoldable pub pins_of_a : ℕ → ℕ → ChannelPins
pins_of_a before after = channel_pins before after 0 6 4 3

unfoldable pub pins_of_b : ℕ → ℕ → ChannelPins
pins_of_b before after = channel_pins before after 1 7 2 5
