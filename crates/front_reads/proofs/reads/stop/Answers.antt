-- `stop` meets its contract: it is what its callees answer. Assumes nothing.
use Rattle.front_reads.proofs.reads.stop.Goals as goal

pub returns : goal.returns
returns c = simp (c.stop_counter-timer.ensures, c.mode_of.ensures)
