-- `tick_side` meets its contract: each way through the tests is the definition's, with the callee's answer. Assumes nothing.
use Rattle.format.proofs.Laws.{steps}
use Rattle.clocks.specs.Channel.{ticked_of}
use Rattle.clocks.proofs.channel.tick_side.Goals as goal

pub returns-then-tick : goal.returns-then-tick
unfolding ticked_of
returns-then-tick c = simp c.divide.ensures (search steps)

pub returns : goal.returns
unfolding ticked_of
returns c = search steps
