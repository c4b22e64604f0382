-- `add` meets its contract: each way through the tests is the definition's. Assumes nothing.
use Rattle.format.proofs.Laws.{steps}
use Rattle.replay_script.specs.Reading.{added_of}
use Rattle.replay_script.proofs.reading.add.Goals as goal

pub returns-then-reading-eq1 : goal.returns-then-reading-eq1
unfolding added_of
returns-then-reading-eq1 c = simp c.name_after.ensures (search steps)

pub returns-then-reading-eq2 : goal.returns-then-reading-eq2
unfolding added_of
returns-then-reading-eq2 c = simp c.number_after-added.ensures (search steps)

pub returns-then-reading-eq3 : goal.returns-then-reading-eq3
unfolding added_of
returns-then-reading-eq3 c = simp c.number_after-added-then-reading-eq3.ensures (search steps)

pub returns : goal.returns
unfolding added_of
returns c = search steps
