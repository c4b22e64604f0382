-- `duart_dump_bytes` meets its contract, which is `dump`'s. Assumes nothing.
use Prim.{tt}
use Rattle.duart.proofs.duart.duart_dump_bytes.Goals as goal

pub dump-requires : goal.dump-requires
dump-requires c = tt
