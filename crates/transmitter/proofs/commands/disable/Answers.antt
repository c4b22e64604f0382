-- `disable` meets its contract: it is what its callees answer. Assumes nothing.
use Rattle.transmitter.proofs.commands.disable.Goals as goal

pub returns : goal.returns
returns c = simp c.end_break-t.ensures
