-- `driven_by` meets its contract: each way through the tests is the definition's, with the callee's answer. Assumes nothing.
use Rattle.format.proofs.Laws.{steps}
use Rattle.outputs.specs.Outputs.{driven_by}
use Rattle.outputs.proofs.outputs.driven_by.Goals as goal

pub returns-then-has_bit : goal.returns-then-has_bit
unfolding driven_by
returns-then-has_bit c = simp (c.has_bit-then-has_bit.ensures, ← c.has_bit.ensures) (search steps)

pub returns : goal.returns
unfolding driven_by
returns c = simp (c.has_bit-2.ensures, ← c.has_bit.ensures) (search steps)
