-- A's side over a frame, computed with any byte in it: the start 24 ticks after the write, whether it is the first byte or follows another, the
-- levels in the middle of each bit, and the state when the next byte is written. Assumes nothing.
use Prim.Native.Nat.{ℕ}
use mathlib.Core.Path.{◌≡◌, refl}
use mathlib.Core.Bool.{Bool, true, false}
use Rattle.format.specs.Format.{format_of}
use Rattle.format.specs.Pick.{pick}
use Rattle.frame.specs.Levels.{frame_bits_of, level_of}
use Rattle.transmitter_state.specs.declared.state.Transmitter.{Transmitter}
use Rattle.transmitter_state.specs.State.{empty_shifter}
use Rattle.transmitter_state.specs.Sending.{bit_of_pulse, sent_on_of, pulsed_of}
use Rattle.transmitter.specs.Transmitter.{after_input}
use Rattle.dividers.specs.Divider.{divided_of, sixteenth_of}
use Rattle.dividers.specs.Rates.{period_of}
use Rattle.clocks.specs.declared.channel.Phases.{Phases}
use Rattle.clocks.specs.Channel.{restarted, ticked_of, side_of, transmitter1x, clocked_of}
use Rattle.byte_bits.specs.Bytes.{has_bit}
use Rattle.inputs.specs.Inputs.{pins_of_a}
use Rattle.front_side.specs.declared.side.Side.{Side}
use Rattle.front_side.specs.Side.{buffer_written}
use Rattle.front_modes.specs.Modes.{txd_shown, txd_of}
use Rattle.front_side_clocks.specs.Clocking.{transmitter_pulsed, echo_taken, pulse_of, line_of, side_clocked}
use Rattle.lister_laws.proofs.Laws.Going.{side_ticked}
use Rattle.chip_laws.proofs.Computing.{computing}

-- "MR1 19, MR2 7", "code 11"
abbrev side_with : Transmitter → Phases → Side
side_with t p = record { mr1 = 19; mr2 = 7; moved = true; csr = 187; enabled = false; echo = true; transmitter = t; phases = p }

-- before any byte
abbrev pub prepared_side : Side
prepared_side =
    side_with
    (record { enabled = true; full = false; holding = 0; phase = 0; shifter = empty_shifter; left = record { 0 = 0 }; asked = false; txd = true })
    restarted

-- with so many pulses of a byte's frame sent
abbrev sending : ℕ → ℕ → Bool → Transmitter
sending byte sent level =
    record {
      enabled = true;
      full = false;
      holding = byte;
      phase = 1;
      shifter = record { frame = frame_bits_of (format_of 19) byte; sixteen = true; length = record { 0 = 160 }; sent = record { 0 = sent } };
      left = record { 0 = 0 };
      asked = false;
      txd = level;
    }

-- one
abbrev pub started_side : ℕ → Side
started_side byte =
    side_with (sending byte 1 false) (record { receiver = record { 0 = 0 }; transmitter = record { 0 = 0 }; sixteenths = record { 0 = 1 } })

-- bit k of its frame
abbrev pub frame_level : ℕ → ℕ → Bool
frame_level byte k = level_of (frame_bits_of (format_of 19) byte) (record { 0 = k })

-- all of them
abbrev pub sent_side : ℕ → Side
sent_side byte = side_with (sending byte 160 (frame_level byte 9)) restarted

pub first_starts : (byte : ℕ) → side_ticked 24 (buffer_written prepared_side byte) ≡ started_side byte
unfolding computing side_ticked
first_starts byte = refl

pub next_starts : (before byte : ℕ) → side_ticked 24 (buffer_written (sent_side before) byte) ≡ started_side byte
unfolding computing side_ticked
next_starts before byte = refl

-- TxD in the middle of each bit, 384 ticks apart, and at the end
pub record Sent (byte : ℕ) : Type 0 where
  pub bit0 : txd_of (side_ticked 192 (started_side byte)) ≡ frame_level byte 0
  pub bit1 : txd_of (side_ticked 576 (started_side byte)) ≡ frame_level byte 1
  pub bit2 : txd_of (side_ticked 960 (started_side byte)) ≡ frame_level byte 2
  pub bit3 : txd_of (side_ticked 1344 (started_side byte)) ≡ frame_level byte 3
  pub bit4 : txd_of (side_ticked 1728 (started_side byte)) ≡ frame_level byte 4
  pub bit5 : txd_of (side_ticked 2112 (started_side byte)) ≡ frame_level byte 5
  pub bit6 : txd_of (side_ticked 2496 (started_side byte)) ≡ frame_level byte 6
  pub bit7 : txd_of (side_ticked 2880 (started_side byte)) ≡ frame_level byte 7
  pub bit8 : txd_of (side_ticked 3264 (started_side byte)) ≡ frame_level byte 8
  pub bit9 : txd_of (side_ticked 3648 (started_side byte)) ≡ frame_level byte 9
  pub over : side_ticked 3816 (started_side byte) ≡ sent_side byte

pub sent : (byte : ℕ) → Sent byte
unfolding side_ticked side_clocked clocked_of side_of ticked_of divided_of sixteenth_of period_of transmitter1x transmitter_pulsed echo_taken line_of pulse_of txd_shown after_input pulsed_of sent_on_of bit_of_pulse pins_of_a has_bit pick
sent byte =
    record {
      bit0 = refl;
      bit1 = refl;
      bit2 = refl;
      bit3 = refl;
      bit4 = refl;
      bit5 = refl;
      bit6 = refl;
      bit7 = refl;
      bit8 = refl;
      bit9 = refl;
      over = refl;
    }
