-- `command` meets its contract: it is what its callees answer. Assumes nothing.
use Rattle.front_writes.proofs.writes.command.Goals as goal

pub returns : goal.returns
returns c = simp (c.hand_side.ensures, c.command_feed.ensures, c.command_side.ensures)
