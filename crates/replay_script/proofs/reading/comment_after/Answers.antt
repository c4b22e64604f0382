-- `comment_after` meets its contract: each way through the test is the definition's. Assumes nothing.
use Rattle.format.proofs.Laws.{steps}
use Rattle.replay_script.specs.Reading.{comment_after}
use Rattle.replay_script.proofs.reading.comment_after.Goals as goal

pub returns-then-reading-eq0 : goal.returns-then-reading-eq0
unfolding comment_after
returns-then-reading-eq0 c = search steps

pub returns : goal.returns
unfolding comment_after
returns c = search steps
