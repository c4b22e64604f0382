-- `duart_frame` meets its contract, which is `request_frame`'s. Assumes nothing.
use Prim.{tt}
use Rattle.duart.proofs.duart.duart_frame.Goals as goal

pub request_frame-requires : goal.request_frame-requires
request_frame-requires c = tt
