-- `unmarked` meets its contract: the byte with the callee's marks. Assumes nothing.
use Rattle.character.proofs.character.unmarked.Goals as goal

pub returns : goal.returns
returns c = simp c.no_marks-cleared.ensures
