-- `next_line` meets its contract: the reading is `start`'s. Assumes nothing.
use Rattle.replay_script.proofs.place.next_line.Goals as goal

pub returns : goal.returns
returns c = simp (c.start-reading.ensures, c.line_after-line.ensures)
