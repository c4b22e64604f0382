-- The bytes of a script. Assumes nothing.
use Rattle.std.specs.Prelude.{ℕ, Bool, ◌||◌, eqb}

-- words stand between blanks: a space, a tab or a carriage return
abbrev pub blank_of : ℕ → Bool
blank_of b = eqb b 32 || (eqb b 9 || eqb b 13)
