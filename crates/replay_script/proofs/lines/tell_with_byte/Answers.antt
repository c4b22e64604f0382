-- `tell_with_byte` meets its contract: each way through the tests is the definition's. Assumes nothing.
use Rattle.format.proofs.Laws.{steps}
use Rattle.replay_script.specs.Lines.{told_with_byte}
use Rattle.replay_script.proofs.lines.tell_with_byte.Goals as goal

pub returns-then-name-eq-READ : goal.returns-then-name-eq-READ
unfolding told_with_byte
returns-then-name-eq-READ c = search steps

pub returns-then-name-eq-PINS : goal.returns-then-name-eq-PINS
unfolding told_with_byte
returns-then-name-eq-PINS c = search steps

pub returns : goal.returns
unfolding told_with_byte
returns c = search steps
