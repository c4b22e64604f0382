-- What the program prints of a text that is not too long. Assumes nothing.
use Rattle.std.specs.Prelude.{ℕ, ◌≤◌, List, [], ◌∷◌, ◌++◌, eqb, length}
use Rattle.format.specs.Pick.{pick}
use Rattle.text.specs.Bytes.{bytes_of}
use Rattle.text.specs.Decimal.{decimal_of}
use Rattle.vcd_capture.specs.declared.capturing.Asked.{Asked}
use Rattle.vcd_capture.specs.Capture.{log_a, log_b, number_of}
use Rattle.capture.specs.Lines.{character_lines}

-- a refused call is one line, `refused N`
unfoldable pub refused_text : ℕ → List ℕ
refused_text number = bytes_of "refused " ++ decimal_of 3 number ++ 10 ∷ []

-- all lines of A first, in order, then all of B: 65 is A, 66 is B
unfoldable pub printed_of : Asked → List ℕ → List ℕ → List ℕ → ℕ → ℕ → List ℕ
printed_of q text a b room_a room_b =
    pick (eqb (number_of q text a b room_a room_b) 0) (character_lines 65 (log_a q text a b) ++ character_lines 66 (log_b q text a b))
    (refused_text (number_of q text a b room_a room_b))

-- What the program lends: two logs, and a space that has a line of ten bytes for each two of theirs.
abbrev pub Lent : List ℕ → List ℕ → List ℕ → Type 0
Lent a b space = (length a ≤ 46810) × (length b ≤ 46810) × (468100 ≤ length space)
