-- `level_digit` meets its contract: a level as a number is its bit. Assumes nothing.
use Prim.Native.Nat.{ℕ, ◌+◌}
use mathlib.Core.Path.{◌∙◌, ap}
use Rattle.format.specs.Digits.{digit_of}
use Rattle.text.proofs.Laws.Digits.{bit_byte}
use Rattle.text.proofs.putting.level_digit.Goals as goal

pub returns : goal.returns
unfolding digit_of
returns c = ap (λ (n : ℕ). 48 + n) (c.from.ensures ∙ bit_byte c.args.level)
