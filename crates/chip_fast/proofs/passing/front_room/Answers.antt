-- `front_room` meets its contract: the least of what its callees answer. Assumes nothing.
use Rattle.chip_fast.proofs.passing.front_room.Goals as goal

pub returns : goal.returns
returns c =
    simp (
      c.min-2.ensures,
      c.min.ensures,
      c.channel_room-b.ensures,
      c.channel_room-a.ensures,
      c.timer_room-timer.ensures,
      c.mode_of.ensures,
    )
