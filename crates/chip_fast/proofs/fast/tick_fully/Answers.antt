-- `tick_fully` meets its contract: it is what its callees answer. Assumes nothing.
use Rattle.front_events.specs.FrontEvents.{front_stepped}
use Rattle.chip_step.specs.Chip.{taken_of}
use Rattle.chip_fast.proofs.fast.tick_fully.Goals as goal

pub returns : goal.returns
unfolding taken_of front_stepped
returns c = simp (c.feed_receiver-b.ensures, c.feed_receiver-a.ensures, c.tick_front-handed.ensures)
