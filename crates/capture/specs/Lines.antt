-- For each character a line `A DATA MARKS`, both in decimal. Assumes nothing.
use Rattle.std.specs.Prelude.{ℕ, List, [], ◌∷◌, ◌++◌}
use Rattle.text.specs.Decimal.{decimal_of}

-- a byte has at most three places; 32 is a space, 10 ends the line
unfoldable pub character_line : ℕ → ℕ → ℕ → List ℕ
character_line letter d marks = letter ∷ 32 ∷ decimal_of 3 d ++ 32 ∷ decimal_of 3 marks ++ 10 ∷ []

-- a log has two bytes a character
unfoldable pub character_lines : ℕ → List ℕ → List ℕ
character_lines letter [] = []
character_lines letter (d ∷ []) = []
character_lines letter (d ∷ marks ∷ log) = character_line letter d marks ++ character_lines letter log
