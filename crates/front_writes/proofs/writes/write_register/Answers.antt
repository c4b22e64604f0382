-- `write_register` meets its contract: each way through the tests is the definition's, with the callee's answer. Assumes nothing.
use Rattle.format.proofs.Laws.{steps}
use Rattle.front_writes.specs.Writes.{register_written}
use Rattle.front_writes.proofs.writes.write_register.Goals as goal

pub returns-then-register-eq0 : goal.returns-then-register-eq0
unfolding register_written
returns-then-register-eq0 c = simp (c.hand_a.ensures, c.write_side.ensures) (search steps)

pub returns-then-register-eq2 : goal.returns-then-register-eq2
unfolding register_written
returns-then-register-eq2 c = simp (c.hand_b.ensures, c.write_side-then-register-eq2.ensures) (search steps)

pub returns : goal.returns
unfolding register_written
returns c = simp (c.hand_nothing.ensures, c.write_shared.ensures) (search steps)
