-- `number_after` meets its contract: each way through the tests is the definition's. Assumes nothing.
use Rattle.format.proofs.Laws.{steps}
use Rattle.text.specs.Numbers.{number_after}
use Rattle.text.proofs.numbers.number_after.Goals as goal

pub returns-in_err-number : goal.returns-in_err-number
unfolding number_after
returns-in_err-number c = rw c.in_err-number.was c.from_residual.ensures

pub returns-then-is_digit : goal.returns-then-is_digit
unfolding number_after
returns-then-is_digit c = rw c.in_ok-number.was (simp (c.value_after.ensures, ← c.is_digit.ensures) (search steps))

pub returns-else-is_digit : goal.returns-else-is_digit
unfolding number_after
returns-else-is_digit c = rw c.in_ok-number.was (simp (← c.is_digit.ensures) (search steps))
