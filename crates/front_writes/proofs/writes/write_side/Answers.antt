-- `write_side` meets its contract: one arm a register, each the definition's. Assumes nothing.
use Rattle.format.proofs.Laws.{steps}
use Rattle.format.specs.Pick.{pick}
use Rattle.front_writes.specs.Writes.{side_written}
use Rattle.front_writes.proofs.writes.write_side.Goals as goal

pub returns-in-0 : goal.returns-in-0
unfolding side_written pick
returns-in-0 c = simp (c.hand_side.ensures, c.mode_feed.ensures, c.set_mode.ensures, c.in-0.is)

pub returns-in-1 : goal.returns-in-1
unfolding side_written pick
returns-in-1 c = simp (c.hand_side-in-1.ensures, c.write_csr.ensures, c.in-1.is)

pub returns-in-2 : goal.returns-in-2
unfolding side_written pick
returns-in-2 c = simp (c.command.ensures, c.in-2.is)

pub returns-in_default : goal.returns-in_default
unfolding side_written
returns-in_default c = simp (c.hand_side-in_default.ensures, c.write_buffer.ensures) (search steps)
