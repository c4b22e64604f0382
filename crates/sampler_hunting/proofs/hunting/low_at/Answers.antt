-- `low_at` meets its contract: 16X or 1X, each the callee's answer. Assumes nothing.
use Rattle.format.proofs.Laws.{steps}
use Rattle.sampler_hunting.specs.Hunting.{low_at}
use Rattle.sampler_hunting.proofs.hunting.low_at.Goals as goal

pub returns-then-setting : goal.returns-then-setting
unfolding low_at
returns-then-setting c = simp (c.quiet.ensures, c.starting_at.ensures) (search steps)

pub returns : goal.returns
unfolding low_at
returns c = simp c.confirm_start.ensures (search steps)
