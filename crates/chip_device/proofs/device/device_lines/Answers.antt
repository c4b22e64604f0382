-- `device_lines` meets its contract: it is what its callees answer. Assumes nothing.
use Rattle.chip_device.proofs.device.device_lines.Goals as goal

pub returns : goal.returns
returns c = simp (c.lines_of.ensures, c.show_channel-b.ensures, c.show_channel-a.ensures)
