-- `accept` meets its contract: it is what its callees answer. Assumes nothing.
use Rattle.chip_step.proofs.chip.accept.Goals as goal

pub returns : goal.returns
returns c = simp c.device_lines.ensures
