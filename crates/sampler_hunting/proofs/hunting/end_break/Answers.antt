-- `end_break` meets its contract: the sampler is the callee's. Assumes nothing.
use Rattle.sampler_hunting.proofs.hunting.end_break.Goals as goal

pub returns : goal.returns
returns c = simp c.hunting_after.ensures
