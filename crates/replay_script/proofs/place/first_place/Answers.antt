-- `first_place` meets its contract: the reading is `start`'s. Assumes nothing.
use Rattle.replay_script.proofs.place.first_place.Goals as goal

pub returns : goal.returns
returns c = simp c.start-reading.ensures
