-- `setting_of` meets its contract. Assumes nothing.
use Rattle.vcd_capture.specs.Capture.{setting_of}
use Rattle.vcd_capture.proofs.capturing.setting_of.Goals as goal

pub returns : goal.returns
unfolding setting_of
returns c = simp c.format_of.ensures
