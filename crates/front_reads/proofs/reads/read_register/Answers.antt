-- `read_register` meets its contract: each way through the tests is the definition's, with the callee's answer. Assumes nothing.
use Rattle.format.proofs.Laws.{steps}
use Rattle.front_reads.specs.Reads.{register_read}
use Rattle.front_reads.proofs.reads.read_register.Goals as goal

pub returns-then-register-eq0 : goal.returns-then-register-eq0
unfolding register_read
returns-then-register-eq0 c = simp (c.hand_a.ensures, c.read_side.ensures) (search steps)

pub returns-then-register-eq2 : goal.returns-then-register-eq2
unfolding register_read
returns-then-register-eq2 c = simp (c.hand_b.ensures, c.read_side-then-register-eq2.ensures) (search steps)

pub returns : goal.returns
unfolding register_read
returns c = simp (c.hand_nothing.ensures, c.read_shared.ensures) (search steps)
