-- `duart_sound` meets its contract, which is `is_sound`'s. Assumes nothing.
use Prim.{tt}
use Rattle.duart.proofs.duart.duart_sound.Goals as goal

pub is_sound-requires : goal.is_sound-requires
is_sound-requires c = tt

pub returns : goal.returns
returns c = c.is_sound.ensures
