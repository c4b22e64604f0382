-- `character_of` meets its contract: the data bits and the parity mark are the callees'. Assumes nothing.
use Rattle.sampler_state.specs.Assembly.{character_of}
use Rattle.sampler_state.proofs.assembly.character_of.Goals as goal

pub returns : goal.returns
unfolding character_of
returns c = simp (c.parity_wrong.ensures, c.data_of.ensures)
