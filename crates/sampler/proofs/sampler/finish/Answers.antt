-- `finish` meets its contract: each way through the tests is the definition's, with the callee's answer. Assumes nothing.
use Rattle.format.proofs.Laws.{steps}
use Rattle.sampler.specs.Sampler.{finished}
use Rattle.sampler.proofs.sampler.finish.Goals as goal

pub returns-then-stop : goal.returns-then-stop
unfolding finished
returns-then-stop c = simp c.arrive.ensures (search steps)

pub returns-then-value-eq0 : goal.returns-then-value-eq0
unfolding finished
returns-then-value-eq0 c = simp (c.break_character.ensures, c.empty_at.ensures) (search steps)

pub returns : goal.returns
unfolding finished
returns c = simp c.arrive-2.ensures (search steps)
