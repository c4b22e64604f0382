-- `hold_high` meets its contract: each way through the tests is the definition's, with the callee's answer. Assumes nothing.
use Rattle.format.proofs.Laws.{steps}
use Rattle.transmitter_state.specs.Sending.{held_high}
use Rattle.transmitter_state.proofs.sending.hold_high.Goals as goal

pub returns-then-transmitter-eq0 : goal.returns-then-transmitter-eq0
unfolding held_high
returns-then-transmitter-eq0 c = simp c.go_idle.ensures (search steps)

pub returns-then-standing : goal.returns-then-standing
unfolding held_high
returns-then-standing c = search steps

pub returns : goal.returns
unfolding held_high
returns c = simp c.go_idle-2.ensures (search steps)
