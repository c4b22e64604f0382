-- `received_of` meets its contract: its tests are the definition's. Assumes nothing.
use Rattle.format.proofs.Laws.{steps}
use Rattle.chip_shown.specs.Shown.{received_of}
use Rattle.chip_shown.proofs.shown.received_of.Goals as goal

pub returns-then-mr1-eq1 : goal.returns-then-mr1-eq1
unfolding received_of
returns-then-mr1-eq1 c = search steps

pub returns : goal.returns
unfolding received_of
returns c = search steps
