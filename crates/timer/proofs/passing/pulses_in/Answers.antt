-- `pulses_in` meets its contract: its tests are `tick_pulses`'s. Assumes nothing.
use Rattle.format.proofs.Laws.{steps}
use Rattle.timer.specs.Passing.{pulses_in}
use Rattle.timer.proofs.passing.pulses_in.Goals as goal

pub returns-then-tick_pulses : goal.returns-then-tick_pulses
unfolding pulses_in
returns-then-tick_pulses c = simp (← c.tick_pulses.ensures) (search steps)

pub returns-then-tick_pulses-2 : goal.returns-then-tick_pulses-2
unfolding pulses_in
returns-then-tick_pulses-2 c = simp (← c.tick_pulses-2.ensures, ← c.tick_pulses.ensures) (search steps)

pub returns : goal.returns
unfolding pulses_in
returns c = simp (← c.tick_pulses-2.ensures, ← c.tick_pulses.ensures) (search steps)
