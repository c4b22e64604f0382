-- `receiver_enabling` meets its contract: its arms are the definition's. Assumes nothing.
use Rattle.format.proofs.Laws.{steps}
use Rattle.format.specs.Pick.{pick}
use Rattle.front_commands.specs.Commands.{receiver_enabling}
use Rattle.front_commands.proofs.commands.receiver_enabling.Goals as goal

pub returns-in-1 : goal.returns-in-1
unfolding receiver_enabling
returns-in-1 c = search steps

pub returns-in-1-2 : goal.returns-in-1-2
unfolding receiver_enabling
returns-in-1-2 c = search steps

pub returns-in-2 : goal.returns-in-2
unfolding receiver_enabling pick
returns-in-2 c = rw c.in-2.is

pub returns-in_default : goal.returns-in_default
unfolding receiver_enabling
returns-in_default c = search steps
