-- `transmitter_1x` meets its contract: each way through the tests is the definition's, with the callee's answer. Assumes nothing.
use Rattle.format.proofs.Laws.{steps}
use Rattle.clocks.specs.Channel.{transmitter1x}
use Rattle.clocks.proofs.channel.transmitter_1x.Goals as goal

pub returns-then-is_sixteen : goal.returns-then-is_sixteen
unfolding transmitter1x
returns-then-is_sixteen c = simp (c.divide_by_16.ensures, ← c.is_sixteen.ensures) (search steps)

pub returns-then-pulse : goal.returns-then-pulse
unfolding transmitter1x
returns-then-pulse c = simp (← c.is_sixteen.ensures) (search steps)

pub returns : goal.returns
unfolding transmitter1x
returns c = search steps
