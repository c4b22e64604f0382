-- `restart_on_change` meets its contract: each way through the tests is the definition's, with the callee's answer. Assumes nothing.
use Rattle.format.proofs.Laws.{steps}
use Rattle.clocks.specs.Channel.{restarted_on_change}
use Rattle.clocks.proofs.channel.restart_on_change.Goals as goal

pub returns-then-before-after : goal.returns-then-before-after
unfolding restarted_on_change
returns-then-before-after c = search steps

pub returns : goal.returns
unfolding restarted_on_change
returns c = simp c.restart.ensures (search steps)
