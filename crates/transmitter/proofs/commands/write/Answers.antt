-- `write` meets its contract: each way through the tests is the definition's. Assumes nothing.
use Rattle.format.proofs.Laws.{steps}
use Rattle.transmitter.specs.Commands.{written_of}
use Rattle.transmitter.proofs.commands.write.Goals as goal

pub returns-then-transmitter : goal.returns-then-transmitter
unfolding written_of
returns-then-transmitter c = search steps

pub returns : goal.returns
unfolding written_of
returns c = search steps
