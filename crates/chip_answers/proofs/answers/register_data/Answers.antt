-- `register_data` meets its contract: one arm a register, each the definition's. Assumes nothing.
use Rattle.format.proofs.Laws.{steps}
use Rattle.format.specs.Pick.{pick}
use Rattle.chip_answers.specs.Answers.{register_data}
use Rattle.chip_answers.proofs.answers.register_data.Goals as goal

pub returns-in-1 : goal.returns-in-1
unfolding register_data pick
returns-in-1 c = simp c.in-1.is

pub returns-in-3 : goal.returns-in-3
unfolding register_data pick
returns-in-3 c = simp c.in-3.is

pub returns-in-5 : goal.returns-in-5
unfolding register_data pick
returns-in-5 c = simp (c.isr_of.ensures, c.in-5.is)

pub returns-in-9 : goal.returns-in-9
unfolding register_data pick
returns-in-9 c = simp c.in-9.is

pub returns-in-11 : goal.returns-in-11
unfolding register_data pick
returns-in-11 c = simp c.in-11.is

pub returns-in_default : goal.returns-in_default
unfolding register_data
returns-in_default c = simp c.front_data.ensures (search steps)
