-- `tell_alone` meets its contract: each way through the tests is the definition's. Assumes nothing.
use Rattle.format.proofs.Laws.{steps}
use Rattle.replay_script.specs.Lines.{told_alone}
use Rattle.replay_script.proofs.lines.tell_alone.Goals as goal

pub returns-then-name-eq-RESET : goal.returns-then-name-eq-RESET
unfolding told_alone
returns-then-name-eq-RESET c = search steps

pub returns-then-name-eq-ACK : goal.returns-then-name-eq-ACK
unfolding told_alone
returns-then-name-eq-ACK c = search steps

pub returns-then-name-eq-TICK : goal.returns-then-name-eq-TICK
unfolding told_alone
returns-then-name-eq-TICK c = search steps

pub returns : goal.returns
unfolding told_alone
returns c = search steps
