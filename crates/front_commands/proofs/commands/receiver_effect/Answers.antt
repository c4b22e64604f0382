-- `receiver_effect` meets its contract: each arm is the definition's, and the others ask for nothing here. Assumes nothing.
use Rattle.format.specs.Pick.{pick}
use Rattle.front_commands.specs.Commands.{receiver_effect}
use Rattle.front_commands.proofs.Laws.Actions.{no_receivers}
use Rattle.front_commands.proofs.commands.receiver_effect.Goals as goal

pub returns-in-ResetReceiver : goal.returns-in-ResetReceiver
unfolding receiver_effect pick
returns-in-ResetReceiver c = rw c.in-ResetReceiver.is

pub returns-in-ClearErrors : goal.returns-in-ClearErrors
unfolding receiver_effect pick
returns-in-ClearErrors c = rw c.in-ClearErrors.is

pub returns-in-ClearBreakChange : goal.returns-in-ClearBreakChange
unfolding receiver_effect pick
returns-in-ClearBreakChange c = rw c.in-ClearBreakChange.is

pub returns-in_default : goal.returns-in_default
returns-in_default c = no_receivers _ c.in_default.not-ResetReceiver c.in_default.not-ClearErrors c.in_default.not-ClearBreakChange
