-- `duart_fresh` meets its contract, which is `fresh`'s. Assumes nothing.
use Prim.{tt}
use Rattle.duart.proofs.duart.duart_fresh.Goals as goal

pub fresh-requires : goal.fresh-requires
fresh-requires c = tt

pub returns : goal.returns
returns c = c.fresh.ensures
