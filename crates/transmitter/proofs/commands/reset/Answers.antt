-- `reset` meets its contract: it is what its callees answer. Assumes nothing.
use Rattle.transmitter.proofs.commands.reset.Goals as goal

pub returns : goal.returns
returns c = simp (c.drop_all.ensures, c.end_break.ensures)
