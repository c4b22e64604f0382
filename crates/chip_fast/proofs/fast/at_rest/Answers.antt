-- `at_rest` meets its contract: the lines are `device_lines`'s. Assumes nothing.
use Rattle.chip_fast.specs.Fast.{at_rest}
use Rattle.chip_fast.proofs.fast.at_rest.Goals as goal

pub returns : goal.returns
unfolding at_rest
returns c = simp c.device_lines.ensures
