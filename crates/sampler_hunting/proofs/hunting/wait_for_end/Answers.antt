-- `wait_for_end` meets its contract: each way through the tests is the definition's, with the callee's answer. Assumes nothing.
use Rattle.format.proofs.Laws.{steps}
use Rattle.sampler_hunting.specs.Hunting.{waited}
use Rattle.sampler_hunting.proofs.hunting.wait_for_end.Goals as goal

pub returns-then-sampler-eq0 : goal.returns-then-sampler-eq0
unfolding waited
returns-then-sampler-eq0 c = simp c.end_break.ensures (search steps)

pub returns-then-setting : goal.returns-then-setting
unfolding waited
returns-then-setting c = simp (c.quiet.ensures, c.empty_at.ensures) (search steps)

pub returns-then-level : goal.returns-then-level
unfolding waited
returns-then-level c = simp c.end_break-then-level.ensures (search steps)

pub returns : goal.returns
unfolding waited
returns c = simp (c.quiet-2.ensures, c.empty_at-2.ensures) (search steps)
