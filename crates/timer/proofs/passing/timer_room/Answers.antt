-- `timer_room` meets its contract: its test is `runs`'s. Assumes nothing.
use Rattle.format.proofs.Laws.{steps}
use Rattle.timer.specs.Passing.{timer_room}
use Rattle.timer.proofs.passing.timer_room.Goals as goal

pub returns-then-runs : goal.returns-then-runs
unfolding timer_room
returns-then-runs c = simp (c.running_room.ensures, ← c.runs.ensures) (search steps)

pub returns : goal.returns
unfolding timer_room
returns c = simp (← c.runs.ensures) (search steps)
