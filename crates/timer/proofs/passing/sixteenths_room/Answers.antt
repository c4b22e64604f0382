-- `sixteenths_room` meets its contract: its test is the definition's. Assumes nothing.
use Rattle.format.proofs.Laws.{steps}
use Rattle.timer.specs.Passing.{sixteenths_room}
use Rattle.timer.proofs.passing.sixteenths_room.Goals as goal

pub returns-then-phase-lt16 : goal.returns-then-phase-lt16
unfolding sixteenths_room
returns-then-phase-lt16 c = search steps

pub returns : goal.returns
unfolding sixteenths_room
returns c = search steps
