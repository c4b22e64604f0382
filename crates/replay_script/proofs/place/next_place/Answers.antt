-- `next_place` meets its contract: the reading is `take`'s. Assumes nothing.
use Rattle.replay_script.proofs.place.next_place.Goals as goal

pub returns : goal.returns
returns c = simp c.take-reading.ensures
