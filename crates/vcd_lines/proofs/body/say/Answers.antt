use native.Mathlib.Omega.{arith}
use Rattle.format.proofs.Laws.{steps}
use Rattle.format.specs.Pick.{pick}
use Rattle.vcd_lines.specs.Body.{said_of}
use Rattle.vcd_lines.proofs.body.say.Goals as goal

pub returns-then-byte-ne10 : goal.returns-then-byte-ne10
unfolding said_of
returns-then-byte-ne10 c = search steps

pub returns-in-Digits : goal.returns-in-Digits
unfolding said_of
returns-in-Digits c = rw c.in-Digits.is (search steps)

pub returns-in-Whole : goal.returns-in-Whole
unfolding said_of
returns-in-Whole c = rw c.in-Whole.is (search steps)

pub returns-in-Code : goal.returns-in-Code
unfolding said_of
returns-in-Code c = rw c.in-Code.is (search steps)

pub returns-in_default : goal.returns-in_default
unfolding said_of pick
returns-in_default c = grind (arith, c.in_default.not-Digits, c.in_default.not-Whole, c.in_default.not-Code)
