-- `front_data` meets its contract: one arm a register, each the definition's. Assumes nothing.
use Rattle.format.proofs.Laws.{steps}
use Rattle.format.specs.Pick.{pick}
use Rattle.front_reads.specs.Reads.{front_data}
use Rattle.front_reads.proofs.reads.front_data.Goals as goal

pub returns-in-0 : goal.returns-in-0
unfolding front_data pick
returns-in-0 c = simp (c.mode_register.ensures, c.in-0.is)

pub returns-in-4 : goal.returns-in-4
unfolding front_data pick
returns-in-4 c = simp (c.change_register.ensures, c.in-4.is)

pub returns-in-6 : goal.returns-in-6
unfolding front_data pick
returns-in-6 c = simp c.in-6.is

pub returns-in-7 : goal.returns-in-7
unfolding front_data pick
returns-in-7 c = simp c.in-7.is

pub returns-in-8 : goal.returns-in-8
unfolding front_data pick
returns-in-8 c = simp (c.mode_register-in-8.ensures, c.in-8.is)

pub returns-in-12 : goal.returns-in-12
unfolding front_data pick
returns-in-12 c = simp c.in-12.is

pub returns-in-13 : goal.returns-in-13
unfolding front_data pick
returns-in-13 c = simp (c.input_port.ensures, c.in-13.is)

pub returns-in_default : goal.returns-in_default
unfolding front_data
returns-in_default c = search steps
