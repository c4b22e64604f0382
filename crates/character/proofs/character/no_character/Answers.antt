-- `no_character` meets its contract: a zero with the callee's marks. Assumes nothing.
use Rattle.character.proofs.character.no_character.Goals as goal

pub returns : goal.returns
returns c = simp c.no_marks-marks.ensures
