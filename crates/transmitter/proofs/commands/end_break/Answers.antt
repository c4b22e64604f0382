-- `end_break` meets its contract: each way through the tests is the definition's, with the callee's answer. Assumes nothing.
use Rattle.format.proofs.Laws.{steps}
use Rattle.transmitter.specs.Commands.{break_ended}
use Rattle.transmitter.proofs.commands.end_break.Goals as goal

pub returns-then-transmitter-eq-IN_BREAK : goal.returns-then-transmitter-eq-IN_BREAK
unfolding break_ended
returns-then-transmitter-eq-IN_BREAK c = simp c.high_after.ensures (search steps)

pub returns : goal.returns
unfolding break_ended
returns c = search steps
