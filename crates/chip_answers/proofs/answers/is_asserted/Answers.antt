-- `is_asserted` meets its contract: it is what its callees answer. Assumes nothing.
use Rattle.chip_answers.specs.Answers.{asserted_of}
use Rattle.chip_answers.proofs.answers.is_asserted.Goals as goal

pub returns : goal.returns
unfolding asserted_of
returns c = simp (c.share_a_bit.ensures, c.isr_of.ensures)
