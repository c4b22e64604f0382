-- `reset` meets its contract: the dropped character and the queue are the callees'. Assumes nothing.
use Rattle.receiver_commands.proofs.commands.reset.Goals as goal

pub returns : goal.returns
returns c = simp (c.empty_queue-queue.ensures, c.drop_character-emptied.ensures)
