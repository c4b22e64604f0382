-- `mode_register` meets its contract: its tests are the definition's. Assumes nothing.
use Rattle.format.proofs.Laws.{steps}
use Rattle.front_side.specs.Side.{mode_register}
use Rattle.front_side.proofs.side.mode_register.Goals as goal

pub returns-then-side : goal.returns-then-side
unfolding mode_register
returns-then-side c = search steps

pub returns : goal.returns
unfolding mode_register
returns c = search steps
