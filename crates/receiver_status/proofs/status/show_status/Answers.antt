-- `show_status` meets its contract: each bit is the callee's. Assumes nothing.
use Rattle.receiver_status.proofs.status.show_status.Goals as goal

pub returns : goal.returns
returns c = simp (c.is_empty.ensures, c.is_full.ensures, c.shown_marks.ensures)
