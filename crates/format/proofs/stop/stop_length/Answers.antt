-- `stop_length` meets its contract: each way through the tests is one of the two formulas, and neither passes 32. Assumes nothing.
use Rattle.format.specs.Stop.{stop_length_of}
use Rattle.format.proofs.Laws.{steps}
use Rattle.format.proofs.stop.stop_length.Goals as goal

pub returns-then-width-eq5 : goal.returns-then-width-eq5
unfolding stop_length_of
returns-then-width-eq5 c = search steps

pub returns-then-c-lt8 : goal.returns-then-c-lt8
unfolding stop_length_of
returns-then-c-lt8 c = search steps

pub returns : goal.returns
unfolding stop_length_of
returns c = search steps
