-- `begin` meets its contract: each way through the tests is the definition's, with the callee's answer. Assumes nothing.
use Rattle.format.proofs.Laws.{steps}
use Rattle.transmitter_state.specs.Sending.{begun_of}
use Rattle.transmitter_state.proofs.sending.begin.Goals as goal

pub returns-then-can_start : goal.returns-then-can_start
unfolding begun_of
returns-then-can_start c = simp (c.start.ensures, ← c.can_start.ensures) (search steps)

pub returns-then-transmitter : goal.returns-then-transmitter
unfolding begun_of
returns-then-transmitter c = simp (c.begin_break.ensures, ← c.can_start.ensures) (search steps)

pub returns : goal.returns
unfolding begun_of
returns c = simp (c.go_idle.ensures, ← c.can_start.ensures) (search steps)
