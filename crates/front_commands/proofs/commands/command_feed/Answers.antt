-- `command_feed` meets its contract: it is what its callees answer. Assumes nothing.
use Rattle.front_commands.specs.Commands.{command_feed}
use Rattle.front_commands.proofs.commands.command_feed.Goals as goal

pub returns : goal.returns
unfolding command_feed
returns c = simp (c.receiver_effect.ensures, c.receiver_enabling-enabling.ensures, c.enabled_then.ensures, c.action_of-action.ensures)
