-- `command_side` meets its contract: it is what its callees answer. Assumes nothing.
use Rattle.front_commands.specs.Commands.{side_commanded}
use Rattle.front_commands.proofs.commands.command_side.Goals as goal

pub returns : goal.returns
unfolding side_commanded
returns c = simp (c.moved_then.ensures, c.echo_after-echo.ensures, c.enabled_after-enabled.ensures, c.enabled_then.ensures, c.step_transmitter-transmitter.ensures, c.step_transmitter-first.ensures, c.transmitter_enabling-enabling_input.ensures, c.transmitter_effect-effect_input.ensures, c.action_of-action.ensures)
