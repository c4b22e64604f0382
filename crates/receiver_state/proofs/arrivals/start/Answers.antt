-- `start` meets its contract: the queue and what is said of overrun are the callees'. Assumes nothing.
use Rattle.format.proofs.Laws.{steps}
use Rattle.receiver_state.specs.Arrivals.{started_of}
use Rattle.receiver_state.proofs.arrivals.start.Goals as goal

pub returns-then-started : goal.returns-then-started
unfolding started_of
returns-then-started c = simp (c.one_waits.ensures, c.remove_waiting-rest.ensures) (search steps)

pub returns : goal.returns
unfolding started_of
returns c = search steps
