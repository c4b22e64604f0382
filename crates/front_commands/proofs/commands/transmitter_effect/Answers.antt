-- `transmitter_effect` meets its contract: each arm is the definition's, and the others ask for nothing here. Assumes nothing.
use Rattle.format.specs.Pick.{pick}
use Rattle.front_commands.specs.Commands.{transmitter_effect}
use Rattle.front_commands.proofs.Laws.Actions.{no_transmitters}
use Rattle.front_commands.proofs.commands.transmitter_effect.Goals as goal

pub returns-in-ResetTransmitter : goal.returns-in-ResetTransmitter
unfolding transmitter_effect pick
returns-in-ResetTransmitter c = rw c.in-ResetTransmitter.is

pub returns-in-StartBreak : goal.returns-in-StartBreak
unfolding transmitter_effect pick
returns-in-StartBreak c = rw c.in-StartBreak.is

pub returns-in-StopBreak : goal.returns-in-StopBreak
unfolding transmitter_effect pick
returns-in-StopBreak c = rw c.in-StopBreak.is

pub returns-in_default : goal.returns-in_default
returns-in_default c = no_transmitters _ c.in_default.not-ResetTransmitter c.in_default.not-StartBreak c.in_default.not-StopBreak
