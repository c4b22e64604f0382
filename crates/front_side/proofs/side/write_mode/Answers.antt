-- `write_mode` meets its contract: its tests are the definition's. Assumes nothing.
use Rattle.format.proofs.Laws.{steps}
use Rattle.front_side.specs.Side.{mode_written}
use Rattle.front_side.proofs.side.write_mode.Goals as goal

pub returns-then-side : goal.returns-then-side
unfolding mode_written
returns-then-side c = search steps

pub returns : goal.returns
unfolding mode_written
returns c = search steps
