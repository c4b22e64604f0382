-- `check_byte` meets its contract: the reading and the times, each by one byte more. Assumes nothing.
use Rattle.vcd_read.specs.Scan.{checked_by}
use Rattle.vcd_read.proofs.checking.check_byte.Goals as goal

pub returns : goal.returns
unfolding checked_by
returns c = simp (c.take-reading.ensures, c.add_said-times.ensures, c.say.ensures)
