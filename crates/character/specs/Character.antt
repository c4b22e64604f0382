-- A received character and its error marks. Assumes nothing.
use Rattle.std.specs.Prelude.{ℕ, true, false, ◌||◌}
use Rattle.character.specs.declared.character.Character.{Character}
use Rattle.character.specs.declared.character.Marks.{Marks}

abbrev pub no_marks : Marks
no_marks = record { broken = false; framing = false; parity = false }

-- "the marks, each bit ORed"
abbrev pub or_marks : Marks → Marks → Marks
or_marks a b =
    record { broken = a.broken || b.broken; framing = a.framing || b.framing; parity = a.parity || b.parity }

-- a character without an error mark
abbrev pub clean : ℕ → Character
clean x = record { byte = x; marks = no_marks }

-- a character whose marks command 4 has cleared
abbrev pub unmarked_of : Character → Character
unmarked_of c = clean c.byte

-- what an unused place holds after a chip reset
abbrev pub no_character : Character
no_character = clean 0

-- "a zero with the break mark alone"
abbrev pub break_character : Character
break_character = record { byte = 0; marks = record { broken = true; framing = false; parity = false } }
