-- `take` meets its contract: each way through the tests is the definition's. Assumes nothing.
use Rattle.format.proofs.Laws.{steps}
use Rattle.replay_script.specs.Reading.{taken_of}
use Rattle.replay_script.proofs.reading.take.Goals as goal

pub returns-then-is_blank : goal.returns-then-is_blank
unfolding taken_of
returns-then-is_blank c = simp (← c.is_blank.ensures) (search steps)

pub returns-then-reading : goal.returns-then-reading
unfolding taken_of
returns-then-reading c = simp (c.add.ensures, ← c.is_blank.ensures) (search steps)

pub returns : goal.returns
unfolding taken_of
returns c = simp (c.add-2.ensures, c.begin.ensures, ← c.is_blank.ensures) (search steps)
