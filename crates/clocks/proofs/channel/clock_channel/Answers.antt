-- `clock_channel` meets its contract: it is what its callees answer. Assumes nothing.
use Rattle.clocks.specs.Channel.{clocked_of}
use Rattle.clocks.proofs.channel.clock_channel.Goals as goal

pub returns : goal.returns
unfolding clocked_of
returns c = simp (c.transmitter_1x-bit.ensures, c.side-transmitter.ensures, c.side-receiver.ensures)
