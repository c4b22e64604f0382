-- `reset_front` meets its contract: it is what its callees answer. Assumes nothing.
use Rattle.front_events.proofs.front_events.reset_front.Goals as goal

pub returns : goal.returns
returns c = simp c.front_at.ensures
