-- `look_again` meets its contract: each way through the tests is the definition's, with the callee's answer. Assumes nothing.
use Rattle.format.proofs.Laws.{steps}
use Rattle.sampler_hunting.specs.Hunting.{looked_again}
use Rattle.sampler_hunting.proofs.hunting.look_again.Goals as goal

pub returns-then-level : goal.returns-then-level
unfolding looked_again
returns-then-level c = simp (c.quiet.ensures, c.hunting_after-again.ensures) (search steps)

pub returns-then-sampler-eq0 : goal.returns-then-sampler-eq0
unfolding looked_again
returns-then-sampler-eq0 c = simp c.confirm_start.ensures (search steps)

pub returns : goal.returns
unfolding looked_again
returns c = simp (c.quiet-2.ensures, c.starting_at.ensures) (search steps)
