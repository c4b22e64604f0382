-- What is printed for any bytes is their frames: the device stays one whose A side is as a frame leaves it, so each byte's line is that of its
-- frame, bit by bit. Assumes nothing.
use Prim.Native.Nat.{ℕ, ◌+◌}
use mathlib.Core.Path.{◌≡◌, refl, ◌∙◌, ap, subst}
use mathlib.Core.Bool.{true}
use mathlib.Core.List.{List, [], ◌∷◌}
use native.Mathlib.Omega.{arith}
use lib.ListN.{get_or}
use Rattle.format.specs.Digits.{bits_of}
use Rattle.format.specs.Format.{format_of}
use Rattle.format.specs.Parity.{parity_bits}
use Rattle.format.specs.Pick.{pick}
use Rattle.frame.specs.Levels.{before_stop}
use Rattle.frame.proofs.Laws.Levels.{before_stop_most, length_before_stop}
use Rattle.frame.proofs.Laws.Register.{register_at}
use Rattle.front_side.specs.declared.side.Side.{Side}
use Rattle.front_modes.specs.Modes.{txd_of}
use Rattle.front_side.specs.Side.{buffer_written}
use Rattle.events.specs.declared.events.Event.TheVariants.{Write}
use Rattle.chip_device.specs.declared.device.Device.{Device}
use Rattle.chip_step.specs.Chip.{step_of}
use Rattle.chip_ticks.specs.Ticks.{ticked}
use Rattle.lister_line.specs.Line.{prepared_device, line_of, listed_of, lines_from, frame_text, frames_text, Prints}
use Rattle.lister_laws.proofs.Laws.Going.{Going, Shows, side_ticked, side_more, write_shows, ticks_show}
use Rattle.lister_laws.proofs.Laws.Sides.{prepared_side, started_side, sent_side, frame_level, first_starts, next_starts, sent}
use Rattle.chip_laws.proofs.Computing.{computing}

-- ---- one byte ----

-- 24 ticks after the write its frame starts
abbrev Starts : Side → ℕ → Type 0
Starts s byte = side_ticked 24 (buffer_written s byte) ≡ started_side byte

-- so many ticks after that
later : (d : Device) (s : Side) (byte n : ℕ) → Going d s → Starts s byte
    → Shows (ticked (24 + n) (step_of d (Write 3 byte))) (side_ticked n (started_side byte))
later d s byte n g h =
    subst (Shows (ticked (24 + n) (step_of d (Write 3 byte)))) (side_more 24 n (buffer_written s byte) ∙ ap (side_ticked n) h)
    (ticks_show (24 + n) _ _ (write_shows d s byte g))

-- a level of the register that sends is a bit of the frame, high past those before the stop
frame_bit : (byte k : ℕ) → frame_level byte k ≡ get_or (before_stop (format_of 19) byte) k true
frame_bit byte k =
    let l = length_before_stop (format_of 19) byte in
    let m = before_stop_most 19 in
    register_at (format_of 19) byte k (rw l (omega (arith, m)))

seen : (d : Device) (s : Side) (byte n k : ℕ) → Going d s → Starts s byte → txd_of (side_ticked n (started_side byte)) ≡ frame_level byte k
    → (ticked (24 + n) (step_of d (Write 3 byte))).lines.txda ≡ get_or (before_stop (format_of 19) byte) k true
seen d s byte n k g h e = (later d s byte n g h).line ∙ e ∙ frame_bit byte k

line_of_lem : (d : Device) (s : Side) (byte : ℕ) → Going d s → Starts s byte → (listed_of d byte).line ≡ frame_text byte
unfolding listed_of line_of frame_text before_stop parity_bits format_of bits_of pick
line_of_lem d s byte g h =
    let b = sent byte in
    rw (
      seen d s byte 192 0 g h b.bit0,
      seen d s byte 576 1 g h b.bit1,
      seen d s byte 960 2 g h b.bit2,
      seen d s byte 1344 3 g h b.bit3,
      seen d s byte 1728 4 g h b.bit4,
      seen d s byte 2112 5 g h b.bit5,
      seen d s byte 2496 6 g h b.bit6,
      seen d s byte 2880 7 g h b.bit7,
      seen d s byte 3264 8 g h b.bit8,
      seen d s byte 3648 9 g h b.bit9,
    )

next_of : (d : Device) (s : Side) (byte : ℕ) → Going d s → Starts s byte → Going (listed_of d byte).state (sent_side byte)
unfolding listed_of
next_of d s byte g h = subst (Going (listed_of d byte).state) (sent byte).over (later d s byte 3816 g h).going

-- ---- any bytes ----

-- after one, others
others : (d : Device) (before : ℕ) (bytes : List ℕ) → Going d (sent_side before) → lines_from d bytes ≡ frames_text bytes
unfolding lines_from frames_text
others d before [] g = refl
others d before (byte ∷ bytes) g =
    let h = next_starts before byte in
    rw (line_of_lem d (sent_side before) byte g h, others (listed_of d byte).state byte bytes (next_of d (sent_side before) byte g h))

prepared_going : Going prepared_device prepared_side
unfolding computing prepared_device
prepared_going = record { sound = refl; side = refl; acr = refl; levels = refl; coded = refl }

-- the line of each byte is that of its frame
pub lines : Prints
unfolding lines_from frames_text
lines [] = refl
lines (byte ∷ bytes) =
    let h = first_starts byte in
    rw (line_of_lem prepared_device prepared_side byte prepared_going h, others (listed_of prepared_device byte).state byte bytes (next_of prepared_device prepared_side byte prepared_going h))
