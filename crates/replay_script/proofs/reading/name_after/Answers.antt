-- `name_after` meets its contract: each way through the test is the definition's. Assumes nothing.
use Rattle.format.proofs.Laws.{steps}
use Rattle.replay_script.specs.Reading.{name_after}
use Rattle.replay_script.proofs.reading.name_after.Goals as goal

pub returns-then-name-lt-FIVE_BYTES : goal.returns-then-name-lt-FIVE_BYTES
unfolding name_after
returns-then-name-lt-FIVE_BYTES c = search steps

pub returns : goal.returns
unfolding name_after
returns c = search steps
