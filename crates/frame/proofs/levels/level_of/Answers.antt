-- `level_of` meets its contract: within the register its bit, and past it high. Assumes nothing.
use Rattle.frame.specs.Levels.{level_of}
use Rattle.format.proofs.Laws.{steps}
use Rattle.frame.proofs.levels.level_of.Goals as goal

pub returns-then-n-lt16 : goal.returns-then-n-lt16
unfolding level_of
returns-then-n-lt16 c = search steps

pub returns : goal.returns
unfolding level_of
returns c = search steps
