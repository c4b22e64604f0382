-- `words_after` meets its contract: each way through the test is the definition's. Assumes nothing.
use Rattle.format.proofs.Laws.{steps}
use Rattle.replay_script.specs.Reading.{words_after}
use Rattle.replay_script.proofs.reading.words_after.Goals as goal

pub returns-then-words-lt4 : goal.returns-then-words-lt4
unfolding words_after
returns-then-words-lt4 c = search steps

pub returns-else-words-lt4 : goal.returns-else-words-lt4
unfolding words_after
returns-else-words-lt4 c = search steps
