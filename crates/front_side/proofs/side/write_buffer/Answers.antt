-- `write_buffer` meets its contract: it is what its callees answer. Assumes nothing.
use Rattle.front_side.specs.Side.{buffer_written}
use Rattle.front_side.proofs.side.write_buffer.Goals as goal

pub returns : goal.returns
unfolding buffer_written
returns c = simp c.step_transmitter-transmitter.ensures
