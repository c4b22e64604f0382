-- `driven_op3` meets its contract: each way through the tests is the definition's, with the callee's answer. Assumes nothing.
use Rattle.format.proofs.Laws.{steps}
use Rattle.outputs.specs.Outputs.{driven_op3}
use Rattle.outputs.proofs.outputs.driven_op3.Goals as goal

pub returns-then-outputs-eq1 : goal.returns-then-outputs-eq1
unfolding driven_op3
returns-then-outputs-eq1 c = search steps

pub returns : goal.returns
unfolding driven_op3
returns c = simp c.has_bit.ensures (search steps)
