-- `break_character` meets its contract: the callee's character, with the break mark set. Assumes nothing.
use Rattle.character.proofs.character.break_character.Goals as goal

pub returns : goal.returns
returns c = rw c.no_character-zero.ensures
