-- `read_mode` meets its contract: it is what its callees answer. Assumes nothing.
use Rattle.front_reads.proofs.reads.read_mode.Goals as goal

pub returns : goal.returns
returns c = simp (c.hand_side.ensures, c.point.ensures)
