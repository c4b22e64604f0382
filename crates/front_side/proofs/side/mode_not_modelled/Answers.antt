-- `mode_not_modelled` meets its contract: each way through the tests is the definition's, with the callee's answer. Assumes nothing.
use Rattle.format.proofs.Laws.{steps}
use Rattle.front_side.specs.Side.{mode_not_modelled}
use Rattle.front_side.proofs.side.mode_not_modelled.Goals as goal

pub returns-then-side : goal.returns-then-side
unfolding mode_not_modelled
returns-then-side c = simp c.mr2_not_modelled.ensures (search steps)

pub returns : goal.returns
unfolding mode_not_modelled
returns c = simp c.mr1_not_modelled.ensures (search steps)
