-- `follow_low_stop` meets its contract: each way through the tests is the definition's, with the callee's answer. Assumes nothing.
use Rattle.format.proofs.Laws.{steps}
use Rattle.sampler_hunting.specs.Hunting.{followed}
use Rattle.sampler_hunting.proofs.hunting.follow_low_stop.Goals as goal

pub returns-then-level : goal.returns-then-level
unfolding followed
returns-then-level c = simp (c.quiet.ensures, c.hunting_after.ensures) (search steps)

pub returns-then-sampler-eq0 : goal.returns-then-sampler-eq0
unfolding followed
returns-then-sampler-eq0 c = simp c.low_at.ensures (search steps)

pub returns : goal.returns
unfolding followed
returns c = simp (c.quiet-2.ensures, c.empty_at.ensures) (search steps)
