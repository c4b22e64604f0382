-- `after_stop` meets its contract: each way through the tests is the definition's, with the callee's sampler. Assumes nothing.
use Rattle.format.proofs.Laws.{steps}
use Rattle.sampler_state.specs.State.{after_stop}
use Rattle.sampler_state.proofs.state.after_stop.Goals as goal

pub returns-then-stop : goal.returns-then-stop
unfolding after_stop
returns-then-stop c = simp c.hunting_after.ensures (search steps)

pub returns-then-sixteen : goal.returns-then-sixteen
unfolding after_stop
returns-then-sixteen c = simp c.empty_at.ensures (search steps)

pub returns : goal.returns
unfolding after_stop
returns c = simp c.empty_at-2.ensures (search steps)
