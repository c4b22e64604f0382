-- `start` meets its contract: it is what its callees answer. Assumes nothing.
use Rattle.front_reads.proofs.reads.start.Goals as goal

pub returns : goal.returns
returns c = simp (c.start_counter-timer.ensures, c.mode_of.ensures)
