-- `arrive` meets its contract: sampler and character are the callees'. Assumes nothing.
use Rattle.sampler.proofs.sampler.arrive.Goals as goal

pub returns : goal.returns
returns c = simp (c.character_of.ensures, c.after_stop.ensures)
