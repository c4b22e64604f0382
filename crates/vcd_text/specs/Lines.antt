-- What a dump's lines after its header say, by themselves: whoever reads them goes by this. Assumes nothing.
use Rattle.std.specs.Prelude.{ℕ, suc, ◌≤◌, Bool, List, [], ◌∷◌, ◌++◌, eqb, leb}
use Rattle.format.specs.Pick.{pick}
use Rattle.format.specs.Digits.{digit_of}
use Rattle.text.specs.Decimal.{decimal_of}

-- "`#` with the time and lines such as `1!`": a time, or a value of the wire with this code. A number of 64 bits has at
-- most twenty places.
pub data Line : Type 0 where
  Time : ℕ → Line
  Value : ℕ → Bool → Line

unfoldable pub line_text : Line → List ℕ
line_text (Time t) = 35 ∷ decimal_of 20 t ++ 10 ∷ []
line_text (Value code level) = digit_of level ∷ code ∷ 10 ∷ []

unfoldable pub lines_text : List Line → List ℕ
lines_text [] = []
lines_text (l ∷ ls) = line_text l ++ lines_text ls

-- the level of a wire at a time: that of its last value line up to this time, or the one it had before
unfoldable pub level_at : ℕ → ℕ → Bool → List Line → Bool
level_at t code level [] = level
level_at t code level (Time u ∷ ls) = pick (leb u t) (level_at t code level ls) level
level_at t code level (Value c v ∷ ls) = level_at t code (pick (eqb c code) v level) ls

-- the times, in their order
unfoldable pub times_of : List Line → List ℕ
times_of [] = []
times_of (Time t ∷ ls) = t ∷ times_of ls
times_of (Value c v ∷ ls) = times_of ls

-- each is later than the one before, and none is before the first number
unfoldable pub RisesFrom : ℕ → List ℕ → Type 0
RisesFrom t [] = Unit {0}
RisesFrom t (u ∷ us) = (t ≤ u) × RisesFrom (suc u) us

-- the values of a wire, in their order
unfoldable pub values_on : ℕ → List Line → List Bool
values_on code [] = []
values_on code (Time t ∷ ls) = values_on code ls
values_on code (Value c v ∷ ls) = pick (eqb c code) (v ∷ values_on code ls) (values_on code ls)
