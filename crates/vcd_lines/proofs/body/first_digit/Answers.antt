use Rattle.format.proofs.Laws.{steps}
use Rattle.vcd_lines.specs.Body.{first_digit}
use Rattle.vcd_lines.proofs.body.first_digit.Goals as goal

pub returns-then-byte-eq48 : goal.returns-then-byte-eq48
unfolding first_digit
returns-then-byte-eq48 c = search steps

pub returns-then-is_digit : goal.returns-then-is_digit
unfolding first_digit
returns-then-is_digit c = simp (c.digit_value.ensures, ← c.is_digit.ensures) (search steps)

pub returns-else-is_digit : goal.returns-else-is_digit
unfolding first_digit
returns-else-is_digit c = simp (← c.is_digit.ensures) (search steps)
