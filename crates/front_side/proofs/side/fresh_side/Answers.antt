-- `fresh_side` meets its contract: it is what its callees answer. Assumes nothing.
use Rattle.front_side.specs.Side.{fresh_side}
use Rattle.front_side.proofs.side.fresh_side.Goals as goal

pub returns : goal.returns
unfolding fresh_side
returns c = simp (c.restart.ensures, c.fresh_transmitter.ensures)
