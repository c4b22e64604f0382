-- Where the reading of a script stands: the number that an error names counts every line from 1, skipped ones too.
-- Assumes nothing.
use Rattle.std.specs.Prelude.{ℕ, ◌+◌, true, false, ltb}
use Rattle.format.specs.Pick.{pick}
use Rattle.replay_script.specs.declared.place.Place.{Place}
use Rattle.replay_script.specs.Reading.{started, taken_of}

abbrev pub first_place : Place
first_place = record { line = 1; begun = false; reading = started }

-- a number of 64 bits that can be no larger stays
unfoldable pub line_after : ℕ → ℕ
line_after n = pick (ltb n 18446744073709551615) (n + 1) n

abbrev pub next_line : Place → Place
next_line p = record { line = line_after p.line; begun = false; reading = started }

abbrev pub next_place : Place → ℕ → Place
next_place p b = record { line = p.line; begun = true; reading = taken_of p.reading b }
