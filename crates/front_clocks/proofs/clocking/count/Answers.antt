-- `count` meets its contract: each way through the tests is the definition's, with the callee's answer. Assumes nothing.
use Rattle.format.proofs.Laws.{steps}
use Rattle.front_clocks.specs.Clocking.{counted_of}
use Rattle.front_clocks.proofs.clocking.count.Goals as goal

pub returns-then-tick : goal.returns-then-tick
unfolding counted_of
returns-then-tick c = simp (c.step_by_tick.ensures, c.mode_of.ensures) (search steps)

pub returns-then-rises : goal.returns-then-rises
unfolding counted_of
returns-then-rises c = simp (c.step_by_edge.ensures, c.mode_of-then-rises.ensures, ← c.rises.ensures) (search steps)

pub returns : goal.returns
unfolding counted_of
returns c = simp (← c.rises.ensures) (search steps)
