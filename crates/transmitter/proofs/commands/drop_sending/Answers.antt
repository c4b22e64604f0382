-- `drop_sending` meets its contract: it is what its callee answers. Assumes nothing.
use Rattle.transmitter.proofs.commands.drop_sending.Goals as goal

pub returns : goal.returns
returns c = simp c.empty_shifter-shifter.ensures
