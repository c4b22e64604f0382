-- `prepared` meets its contract: it is what its callees answer. Assumes nothing.
use Rattle.lister_line.specs.Line.{prepared_device}
use Rattle.lister_line.proofs.line.prepared.Goals as goal

pub returns : goal.returns
unfolding prepared_device
returns c = simp (c.write.ensures, c.write-third.ensures, c.write-second.ensures, c.write-first.ensures, c.fresh.ensures)
