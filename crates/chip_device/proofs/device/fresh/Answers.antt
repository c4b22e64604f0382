-- `fresh` meets its contract: it is what its callees answer. Assumes nothing.
use Rattle.chip_device.specs.Device.{fresh_device}
use Rattle.chip_device.proofs.device.fresh.Goals as goal

pub returns : goal.returns
unfolding fresh_device
returns c = simp (c.fresh_receiver-2.ensures, c.fresh_receiver.ensures, c.front_at.ensures)
