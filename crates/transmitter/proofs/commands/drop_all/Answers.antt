-- `drop_all` meets its contract: each way through the tests is the definition's, with the callee's answer. Assumes nothing.
use Rattle.format.proofs.Laws.{steps}
use Rattle.transmitter.specs.Commands.{dropped_of}
use Rattle.transmitter.proofs.commands.drop_all.Goals as goal

pub returns-then-transmitter-eq-AFTER_BREAK : goal.returns-then-transmitter-eq-AFTER_BREAK
unfolding dropped_of
returns-then-transmitter-eq-AFTER_BREAK c = simp c.empty_shifter-shifter.ensures (search steps)

pub returns : goal.returns
unfolding dropped_of
returns c = simp c.empty_shifter-shifter.ensures (search steps)
