-- `remove_waiting` meets its contract: the callee's test chooses, as the definition's does. Assumes nothing.
use Rattle.format.proofs.Laws.{steps}
use Rattle.queue.specs.Queue.{without_waiting_of}
use Rattle.queue.proofs.queue.remove_waiting.Goals as goal

pub returns-then-one_waits : goal.returns-then-one_waits
unfolding without_waiting_of
returns-then-one_waits c = simp (← c.one_waits.ensures) (search steps)

pub returns-else-one_waits : goal.returns-else-one_waits
unfolding without_waiting_of
returns-else-one_waits c = simp (← c.one_waits.ensures) (search steps)
