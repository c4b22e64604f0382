-- `channel_room` meets its contract: the least of what its callees answer. Assumes nothing.
use Rattle.chip_fast.proofs.passing.channel_room.Goals as goal

pub returns : goal.returns
returns c = simp (c.min.ensures, c.side_room-transmitter.ensures, c.side_room-receiver.ensures)
