-- `confirm_start` meets its contract: the gap and the sampler are the callees'. Assumes nothing.
use Rattle.sampler_hunting.proofs.hunting.confirm_start.Goals as goal

pub returns : goal.returns
returns c = simp (c.assembling_at.ensures, c.gap.ensures)
