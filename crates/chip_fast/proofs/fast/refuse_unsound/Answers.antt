-- `refuse_unsound` meets its contract: the lines are `no_lines`'s. Assumes nothing.
use Rattle.chip_step.specs.Chip.{refusal_lines}
use Rattle.format.specs.Pick.{pick}
use Rattle.chip_fast.proofs.fast.refuse_unsound.Goals as goal

pub returns : goal.returns
unfolding refusal_lines pick
returns c = simp (c.no_lines.ensures, c.number.ensures)
