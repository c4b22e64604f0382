-- A level that the code turns into a number is its bit. Assumes nothing.
use mathlib.Core.Path.{◌≡◌, refl}
use mathlib.Core.Bool.{Bool, true, false}
use mir.Val.{bool_byte}
use Rattle.format.specs.Digits.{bit}

pub bit_byte : (level : Bool) → bool_byte level ≡ bit level
bit_byte true = refl
bit_byte false = refl
