-- `write_csr` meets its contract: it is what its callees answer. Assumes nothing.
use Rattle.front_side.specs.Side.{csr_written}
use Rattle.front_side.proofs.side.write_csr.Goals as goal

pub returns : goal.returns
unfolding csr_written
returns c = simp c.restart-restarted.ensures
