-- `take_echo` meets its contract: each way through the test is the definition's. Assumes nothing.
use Rattle.format.proofs.Laws.{steps}
use Rattle.front_side_clocks.specs.Clocking.{echo_taken}
use Rattle.front_side_clocks.proofs.clocking.take_echo.Goals as goal

pub returns-then-pulse-side : goal.returns-then-pulse-side
unfolding echo_taken
returns-then-pulse-side c = simp (← c.echoes.ensures) (search steps)

pub returns : goal.returns
unfolding echo_taken
returns c = simp (← c.echoes.ensures) (search steps)
