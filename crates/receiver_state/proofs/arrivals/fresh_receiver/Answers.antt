-- `fresh_receiver` meets its contract: every part is the callee's, the rest zero. Assumes nothing.
use Rattle.receiver_state.proofs.arrivals.fresh_receiver.Goals as goal

pub returns : goal.returns
returns c = simp (c.no_marks.ensures, c.empty_queue.ensures, c.drop_assembly.ensures)
