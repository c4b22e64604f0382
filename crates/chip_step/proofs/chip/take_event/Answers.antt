-- `take_event` meets its contract: it is what its callees answer. Assumes nothing.
use Rattle.chip_step.specs.Chip.{taken_of}
use Rattle.chip_step.proofs.chip.take_event.Goals as goal

pub returns : goal.returns
unfolding taken_of
returns c = simp (c.event_fresh-fresh.ensures, c.event_data-byte.ensures, c.show_channel-shown_b.ensures, c.show_channel-shown_a.ensures, c.feed_receiver-b.ensures, c.feed_receiver-a.ensures, c.step_front-handed.ensures)
