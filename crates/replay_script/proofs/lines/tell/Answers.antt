-- `tell` meets its contract: each way through the tests is the definition's, and what each calls is its own definition's. Assumes nothing.
use Rattle.format.proofs.Laws.{steps}
use Rattle.replay_script.specs.Lines.{told_of}
use Rattle.replay_script.proofs.lines.tell.Goals as goal

pub returns-then-is_silent : goal.returns-then-is_silent
unfolding told_of
returns-then-is_silent c = simp (← c.is_silent.ensures) (search steps)

pub returns-then-reading-eq1 : goal.returns-then-reading-eq1
unfolding told_of
returns-then-reading-eq1 c = simp (← c.is_silent.ensures) (search steps)

pub returns-then-reading-eq2 : goal.returns-then-reading-eq2
unfolding told_of
returns-then-reading-eq2 c = simp (← c.is_silent.ensures) (search steps)

pub returns-then-reading-eq3 : goal.returns-then-reading-eq3
unfolding told_of
returns-then-reading-eq3 c = simp (← c.is_silent.ensures) (search steps)

pub returns : goal.returns
unfolding told_of
returns c = simp (← c.is_silent.ensures) (search steps)
