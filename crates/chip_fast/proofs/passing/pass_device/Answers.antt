-- `pass_device` meets its contract: what its callee answers is written to the fields that pass. Assumes nothing.
use Rattle.chip_fast.proofs.Laws.Passing.{passed_written}
use Rattle.chip_fast.proofs.passing.pass_device.Goals as goal

pub returns : goal.returns
returns c = passed_written _ _ _ c.pass_counts-counts.ensures
