use Rattle.format.proofs.Laws.{steps}
use Rattle.vcd_lines.specs.Body.{next_digit}
use Rattle.vcd_lines.proofs.body.next_digit.Goals as goal

pub returns-then-not-is_digit : goal.returns-then-not-is_digit
unfolding next_digit
returns-then-not-is_digit c = simp (c.must_end.ensures, ← c.is_digit.ensures) (search steps)

pub returns-then-time-gt400000000 : goal.returns-then-time-gt400000000
unfolding next_digit
returns-then-time-gt400000000 c = simp (← c.is_digit.ensures) (search steps)

pub returns-then-longer-gt4000000000 : goal.returns-then-longer-gt4000000000
unfolding next_digit
returns-then-longer-gt4000000000 c = simp (← c.digit_value.ensures, ← c.is_digit.ensures) (search steps)

pub returns : goal.returns
unfolding next_digit
returns c = simp (← c.digit_value.ensures, ← c.is_digit.ensures) (search steps)
