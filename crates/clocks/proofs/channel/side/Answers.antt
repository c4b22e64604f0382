-- `side` meets its contract: each way through the tests is the definition's, with the callee's answer. Assumes nothing.
use Rattle.format.proofs.Laws.{steps}
use Rattle.clocks.specs.Channel.{side_of}
use Rattle.clocks.proofs.channel.side.Goals as goal

pub returns-then-code-lt-TIMER_TOGGLE : goal.returns-then-code-lt-TIMER_TOGGLE
unfolding side_of
returns-then-code-lt-TIMER_TOGGLE c = simp (c.tick_side.ensures, c.period_of.ensures) (search steps)

pub returns-then-code-eq-TIMER_TOGGLE : goal.returns-then-code-eq-TIMER_TOGGLE
unfolding side_of
returns-then-code-eq-TIMER_TOGGLE c = search steps

pub returns : goal.returns
unfolding side_of
returns c = search steps
