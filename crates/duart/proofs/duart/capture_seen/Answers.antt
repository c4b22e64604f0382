-- `capture_seen` meets its contract: the length is that of the channel named. Assumes nothing.
use Rattle.format.proofs.Laws.{steps}
use Rattle.duart.specs.Duart.{capture_seen}
use Rattle.duart.proofs.duart.capture_seen.Goals as goal

pub returns-then-channel_b : goal.returns-then-channel_b
unfolding capture_seen
returns-then-channel_b c = rw c.in-Ok.is (search steps)

pub returns-else-channel_b : goal.returns-else-channel_b
unfolding capture_seen
returns-else-channel_b c = rw c.in-Ok.is (search steps)

pub returns-in-Err : goal.returns-in-Err
unfolding capture_seen
returns-in-Err c = rw (c.in-Err.is, c.number.ensures)
