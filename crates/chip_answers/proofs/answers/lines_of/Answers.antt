-- `lines_of` meets its contract: it is what its callees answer. Assumes nothing.
use Rattle.chip_answers.specs.Answers.{asserted_of, lines_of}
use Rattle.chip_answers.proofs.answers.lines_of.Goals as goal

pub returns : goal.returns
unfolding asserted_of lines_of
returns c =
    simp (c.op_levels.ensures, c.timer_level.ensures, c.show_txd-2.ensures, c.show_txd.ensures, c.share_a_bit.ensures, c.isr_of-isr.ensures)
