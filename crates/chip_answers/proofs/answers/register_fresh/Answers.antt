-- `register_fresh` meets its contract: one arm a register, each the definition's. Assumes nothing.
use Rattle.format.proofs.Laws.{steps}
use Rattle.format.specs.Pick.{pick}
use Rattle.chip_answers.specs.Answers.{register_fresh}
use Rattle.chip_answers.proofs.answers.register_fresh.Goals as goal

pub returns-in-3 : goal.returns-in-3
unfolding register_fresh pick
returns-in-3 c = simp c.in-3.is

pub returns-in-11 : goal.returns-in-11
unfolding register_fresh pick
returns-in-11 c = simp c.in-11.is

pub returns-in_default : goal.returns-in_default
unfolding register_fresh
returns-in_default c = search steps
