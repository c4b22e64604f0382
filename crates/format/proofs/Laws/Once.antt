-- A contract that is an equation with a definition leaves one answer. Assumes nothing.
use mathlib.Core.Path.{◌≡◌, sym, ◌∙◌}

-- Two answers that both fit the same words are equal.
pub one_answer : {A : Type 0} {told x y : A} → x ≡ told → y ≡ told → x ≡ y
one_answer e f = e ∙ sym f
