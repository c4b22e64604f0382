-- `gap` meets its contract: the two answers are the definition's. Assumes nothing.
use Rattle.format.proofs.Laws.{steps}
use Rattle.sampler_state.specs.State.{gap_of}
use Rattle.sampler_state.proofs.state.gap.Goals as goal

pub returns-then-sixteen : goal.returns-then-sixteen
unfolding gap_of
returns-then-sixteen c = search steps

pub returns : goal.returns
unfolding gap_of
returns c = search steps
