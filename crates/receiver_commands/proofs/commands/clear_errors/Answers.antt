-- `clear_errors` meets its contract: the queue and the sums are the callees'. Assumes nothing.
use Rattle.receiver_commands.proofs.commands.clear_errors.Goals as goal

pub returns : goal.returns
returns c = simp (c.no_marks-sums.ensures, c.replace_oldest-queue.ensures, c.unmarked-top.ensures, c.oldest.ensures)
