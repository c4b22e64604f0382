-- `front_at` meets its contract: it is what its callees answer. Assumes nothing.
use Rattle.front.specs.Front.{front_at}
use Rattle.front.proofs.front.front_at.Goals as goal

pub returns : goal.returns
unfolding front_at
returns c = simp (c.fresh_outputs.ensures, c.fresh_timer.ensures, c.fresh_side-2.ensures, c.fresh_side.ensures)
