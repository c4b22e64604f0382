-- `take_enabling` meets its contract: one arm a case, each the callee's answer. Assumes nothing.
use Rattle.receiver_commands.specs.Commands.{enabling_of}
use Rattle.receiver_commands.proofs.commands.take_enabling.Goals as goal

pub returns-in-Stays : goal.returns-in-Stays
unfolding enabling_of
returns-in-Stays c = simp c.in-Stays.is

pub returns-in-Enables : goal.returns-in-Enables
unfolding enabling_of
returns-in-Enables c = simp (c.drop_character.ensures, c.in-Enables.is)

pub returns-in-Disables : goal.returns-in-Disables
unfolding enabling_of
returns-in-Disables c = simp (c.drop_character-in-Disables.ensures, c.in-Disables.is)
