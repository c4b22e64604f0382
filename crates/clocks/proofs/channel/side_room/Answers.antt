-- `side_room` meets its contract: its divider's room is `room`'s. Assumes nothing.
use Rattle.format.proofs.Laws.{steps}
use Rattle.clocks.specs.Channel.{side_room}
use Rattle.clocks.proofs.channel.side_room.Goals as goal

pub returns-then-code-lt-TIMER_TOGGLE : goal.returns-then-code-lt-TIMER_TOGGLE
unfolding side_room
returns-then-code-lt-TIMER_TOGGLE c = simp (c.room.ensures, c.period_of.ensures) (search steps)

pub returns : goal.returns
unfolding side_room
returns c = search steps
