-- `change_set` meets its contract: it is what its callees answer. Assumes nothing.
use Rattle.front_side.specs.Side.{set_changed}
use Rattle.front_side.proofs.side.change_set.Goals as goal

pub returns : goal.returns
unfolding set_changed
returns c = simp c.restart_on_change-phases.ensures
