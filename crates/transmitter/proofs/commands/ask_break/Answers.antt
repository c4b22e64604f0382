-- `ask_break` meets its contract: each way through the tests is the definition's. Assumes nothing.
use Rattle.format.proofs.Laws.{steps}
use Rattle.transmitter.specs.Commands.{break_asked}
use Rattle.transmitter.proofs.commands.ask_break.Goals as goal

pub returns-then-transmitter-eq-IN_BREAK : goal.returns-then-transmitter-eq-IN_BREAK
unfolding break_asked
returns-then-transmitter-eq-IN_BREAK c = search steps

pub returns : goal.returns
unfolding break_asked
returns c = search steps
