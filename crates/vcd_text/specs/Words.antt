-- How the code goes: the values of a time are the bits of a word, the lowest that of the first wire. Nothing here
-- must be believed of a dump. Assumes nothing.
use Rattle.std.specs.Prelude.{ℕ, Bool, List, [], eqb}
use Rattle.format.specs.Pick.{pick}
use Rattle.format.specs.Digits.{bits_of}
use Rattle.vcd_text.specs.Changes.{value_lines, at_time}

-- the values of so many wires that were written before, if any were
unfoldable pub written_before : Bool → ℕ → ℕ → List Bool
written_before none wires before = pick none [] (bits_of wires before)

-- what is written at a tick's time; before time 0 none is
unfoldable pub changes_text : ℕ → ℕ → ℕ → List ℕ
changes_text n before values = at_time n (value_lines 33 (written_before (eqb n 0) 11 before) (bits_of 11 values))
