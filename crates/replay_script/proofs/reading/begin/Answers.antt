-- `begin` meets its contract: each field is what its function ensures. Assumes nothing.
use Rattle.replay_script.specs.Reading.{begun_of}
use Rattle.replay_script.proofs.reading.begin.Goals as goal

pub returns : goal.returns
unfolding begun_of
returns c = simp (c.words_after.ensures, c.comment_after.ensures)
