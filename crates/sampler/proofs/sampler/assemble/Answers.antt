-- `assemble` meets its contract: each way through the tests is the definition's, with the callee's answer. Assumes nothing.
use Rattle.format.proofs.Laws.{steps}
use Rattle.sampler.specs.Sampler.{assembled}
use Rattle.sampler.proofs.sampler.assemble.Goals as goal

pub returns-then-sampler-eq0 : goal.returns-then-sampler-eq0
unfolding assembled
returns-then-sampler-eq0 c = simp c.take_sample.ensures (search steps)

pub returns : goal.returns
unfolding assembled
returns c = simp (c.quiet.ensures, c.assembling_at.ensures) (search steps)
