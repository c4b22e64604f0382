-- `running_room` meets its contract: its tests are `tick_pulses`'s. Assumes nothing.
use Rattle.format.proofs.Laws.{steps}
use Rattle.timer.specs.Passing.{running_room}
use Rattle.timer.proofs.Laws.Passing.{counted_one}
use Rattle.timer.proofs.passing.running_room.Goals as goal

pub returns-then-tick_pulses : goal.returns-then-tick_pulses
unfolding running_room
returns-then-tick_pulses c =
    simp (c.count_on-pulses.ensures, counted_one, ← c.tick_pulses.ensures)
    (search steps)

pub returns-then-tick_pulses-2 : goal.returns-then-tick_pulses-2
unfolding running_room
returns-then-tick_pulses-2 c =
    simp (
      c.sixteenths_room.ensures,
      c.count_on-pulses.ensures,
      counted_one,
      ← c.tick_pulses-2.ensures,
      ← c.tick_pulses.ensures,
    )
    (search steps)

pub returns : goal.returns
unfolding running_room
returns c = simp (← c.tick_pulses-2.ensures, ← c.tick_pulses.ensures) (search steps)
