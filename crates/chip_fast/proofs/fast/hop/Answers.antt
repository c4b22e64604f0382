-- `hop` meets its contract: it is what its callees answer. Assumes nothing.
use Rattle.chip_fast.specs.Fast.{hop_of}
use Rattle.chip_fast.proofs.fast.hop.Goals as goal

pub returns : goal.returns
unfolding hop_of
returns c =
    simp (
      c.tick_fully-state.ensures,
      c.pass_device.ensures,
      c.min.ensures,
      c.front_room.ensures,
    )
