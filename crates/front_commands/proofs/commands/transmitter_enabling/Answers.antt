-- `transmitter_enabling` meets its contract: its arms are the definition's. Assumes nothing.
use Rattle.format.proofs.Laws.{steps}
use Rattle.format.specs.Pick.{pick}
use Rattle.front_commands.specs.Commands.{transmitter_enabling}
use Rattle.front_commands.proofs.commands.transmitter_enabling.Goals as goal

pub returns-in-1 : goal.returns-in-1
unfolding transmitter_enabling
returns-in-1 c = search steps

pub returns-in-2 : goal.returns-in-2
unfolding transmitter_enabling pick
returns-in-2 c = rw c.in-2.is

pub returns-in_default : goal.returns-in_default
unfolding transmitter_enabling
returns-in_default c = search steps
