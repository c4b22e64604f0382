-- `pass_side` meets its contract: a divider's phase goes on by the sum, and no other's moves. Assumes nothing.
use Rattle.format.proofs.Laws.{steps}
use Rattle.clocks.specs.Channel.{side_passed}
use Rattle.clocks.proofs.channel.pass_side.Goals as goal

pub returns-then-code-lt-TIMER_TOGGLE : goal.returns-then-code-lt-TIMER_TOGGLE
unfolding side_passed
returns-then-code-lt-TIMER_TOGGLE c = search steps

pub returns : goal.returns
unfolding side_passed
returns c = search steps
