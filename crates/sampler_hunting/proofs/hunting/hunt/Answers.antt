-- `hunt` meets its contract: each way through the tests is the definition's, with the callee's answer. Assumes nothing.
use Rattle.format.proofs.Laws.{steps}
use Rattle.sampler_hunting.specs.Hunting.{hunted}
use Rattle.sampler_hunting.proofs.hunting.hunt.Goals as goal

pub returns-then-level : goal.returns-then-level
unfolding hunted
returns-then-level c = simp (c.quiet.ensures, c.hunting_after.ensures) (search steps)

pub returns-then-sampler : goal.returns-then-sampler
unfolding hunted
returns-then-sampler c = simp c.low_at.ensures (search steps)

pub returns : goal.returns
unfolding hunted
returns c = simp (c.quiet-2.ensures, c.hunting_after-2.ensures) (search steps)
