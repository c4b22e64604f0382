-- `read_flags` meets its contract: it is what its callees answer. Assumes nothing.
use Rattle.front_reads.proofs.reads.read_flags.Goals as goal

pub returns : goal.returns
returns c = simp c.clear_changes-inputs.ensures
