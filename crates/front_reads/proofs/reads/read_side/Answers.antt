-- `read_side` meets its contract: one arm a register, each the definition's. Assumes nothing.
use Rattle.format.proofs.Laws.{steps}
use Rattle.format.specs.Pick.{pick}
use Rattle.front_reads.specs.Reads.{side_read}
use Rattle.front_reads.proofs.reads.read_side.Goals as goal

pub returns-in-0 : goal.returns-in-0
unfolding side_read pick
returns-in-0 c = simp (c.read_mode.ensures, c.in-0.is)

pub returns-in-3 : goal.returns-in-3
unfolding side_read pick
returns-in-3 c = simp (c.hand_side.ensures, c.in-3.is)

pub returns-in_default : goal.returns-in_default
unfolding side_read
returns-in_default c = simp c.hand_side-in_default.ensures (search steps)
