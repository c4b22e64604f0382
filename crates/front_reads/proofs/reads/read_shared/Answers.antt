-- `read_shared` meets its contract: one arm a register, each the definition's. Assumes nothing.
use Rattle.format.proofs.Laws.{steps}
use Rattle.format.specs.Pick.{pick}
use Rattle.front_reads.specs.Reads.{shared_read}
use Rattle.front_reads.proofs.reads.read_shared.Goals as goal

pub returns-in-4 : goal.returns-in-4
unfolding shared_read pick
returns-in-4 c = simp (c.read_flags.ensures, c.in-4.is)

pub returns-in-14 : goal.returns-in-14
unfolding shared_read pick
returns-in-14 c = simp (c.start.ensures, c.in-14.is)

pub returns-in-15 : goal.returns-in-15
unfolding shared_read pick
returns-in-15 c = simp (c.stop.ensures, c.in-15.is)

pub returns-in_default : goal.returns-in_default
unfolding shared_read
returns-in_default c = search steps
