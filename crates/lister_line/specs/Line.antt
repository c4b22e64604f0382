-- "The frame lister (program) sends standard input on A as in case 4, one line of ten mid-bit levels per byte, no
-- header." Assumes nothing.
use Rattle.std.specs.Prelude.{ℕ, ◌+◌, ◌*◌, ◌≡◌, true, false, List, [], ◌∷◌, ◌++◌, map}
use Rattle.format.specs.Digits.{digit_of, bits_of}
use Rattle.chip_device.specs.declared.device.Device.{Device}
use Rattle.chip_device.specs.Device.{fresh_device}
use Rattle.events.specs.declared.events.Event.TheVariants.{Write}
use Rattle.chip_step.specs.declared.chip.Answer.{Answer}
use Rattle.chip_step.specs.Chip.{step_of}
use Rattle.chip_ticks.specs.Ticks.{ticked}
use Rattle.lister_line.specs.declared.line.Listed.{Listed}

-- the state after a write of a register
abbrev pub written : ℕ → ℕ → Device → Device
written register byte d = (step_of d (Write register byte)).state

-- a fresh device with "MR1 19, MR2 7", "code 11" in both halves of CSR A, and "01 enable" of transmitter A, written in
-- this order
unfoldable pub prepared_device : Device
prepared_device = written 2 4 (written 1 187 (written 0 7 (written 0 19 fresh_device)))

-- TxDA of an answer, as text
abbrev pub level_text : Answer → ℕ
level_text a = digit_of a.lines.txda

-- The middle of bit k, counted from the write: 24 ticks to the pulse that starts the start bit, 384 a bit, and 192 to
-- the middle.
abbrev pub level_at : ℕ → Answer → ℕ
level_at k a = level_text (ticked (384 * k + 216) a)

-- "one line of ten mid-bit levels"
unfoldable pub line_of : Answer → List ℕ
line_of a =
    level_at 0 a ∷ level_at 1 a ∷ level_at 2 a ∷ level_at 3 a ∷ level_at 4 a ∷ level_at 5 a ∷ level_at 6 a ∷ level_at 7 a
    ∷ level_at 8 a ∷ level_at 9 a ∷ 10 ∷ []

-- a byte written to A's buffer: its line, and the state "3,840 ticks" later, when the next byte is written
unfoldable pub listed_of : Device → ℕ → Listed
listed_of d byte =
    let a : Answer = step_of d (Write 3 byte) in
    record { line = line_of a; state = (ticked 3840 a).state }

-- the lines of some bytes, one after the other
unfoldable pub lines_from : Device → List ℕ → List ℕ
lines_from d [] = []
lines_from d (byte ∷ bytes) = (listed_of d byte).line ++ lines_from (listed_of d byte).state bytes

-- and on the prepared device: what the program is to write for these bytes
abbrev pub printed : List ℕ → List ℕ
printed bytes = lines_from prepared_device bytes

-- ---- what is owed ----

-- the line of a byte: "Start bit 0, data lowest bit first, parity if any, stop"; MR1 19 chooses eight data bits and no
-- parity, MR2 7 one stop bit
unfoldable pub frame_text : ℕ → List ℕ
frame_text byte = map digit_of (false ∷ bits_of 8 byte ++ true ∷ []) ++ 10 ∷ []

-- "one line .. per byte, no header"
unfoldable pub frames_text : List ℕ → List ℕ
frames_text [] = []
frames_text (byte ∷ bytes) = frame_text byte ++ frames_text bytes

-- for every input, whatever its length: the levels on the left are TxDA of the step's own answers. The crate
-- `lister_laws` proves it.
abbrev pub Prints : Type 0
Prints = (bytes : List ℕ) → printed bytes ≡ frames_text bytes
