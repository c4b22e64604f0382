-- `drop_character` meets its contract: the sampler is the callee's. Assumes nothing.
use Rattle.receiver_commands.proofs.commands.drop_character.Goals as goal

pub returns : goal.returns
returns c = simp c.drop_assembly-sampler.ensures
