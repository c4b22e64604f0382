-- `timer_level` meets its contract: each way through the tests is the definition's, with the callee's answer. Assumes nothing.
use Rattle.format.proofs.Laws.{steps}
use Rattle.chip_answers.specs.Answers.{timer_level}
use Rattle.chip_answers.proofs.answers.timer_level.Goals as goal

pub returns-then-is_timer : goal.returns-then-is_timer
unfolding timer_level
returns-then-is_timer c = simp (← c.is_timer.ensures, ← c.mode_of.ensures) (search steps)

pub returns : goal.returns
unfolding timer_level
returns c = simp (c.has_bit.ensures, ← c.is_timer.ensures, ← c.mode_of.ensures) (search steps)
