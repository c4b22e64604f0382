-- `isr_of` meets its contract: it is what its callees answer. Assumes nothing.
use Rattle.chip_answers.proofs.answers.isr_of.Goals as goal

pub returns : goal.returns
returns c = simp (c.interrupt_status.ensures, c.has_chosen_change.ensures)
