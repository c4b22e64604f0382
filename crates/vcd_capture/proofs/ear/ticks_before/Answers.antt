-- `ticks_before` meets its contract. Assumes nothing.
use Rattle.vcd_capture.specs.Ear.{ticks_before}
use Rattle.vcd_capture.proofs.ear.ticks_before.Goals as goal

pub returns : goal.returns
unfolding ticks_before
returns c = rw c.saturating_sub.ensures
