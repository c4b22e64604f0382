-- `take_effect` meets its contract: one arm an effect, each the callee's answer. Assumes nothing.
use Rattle.receiver_commands.specs.Commands.{effect_of}
use Rattle.receiver_commands.proofs.commands.take_effect.Goals as goal

pub returns-in-NoEffect : goal.returns-in-NoEffect
unfolding effect_of
returns-in-NoEffect c = simp c.in-NoEffect.is

pub returns-in-Reset : goal.returns-in-Reset
unfolding effect_of
returns-in-Reset c = simp (c.reset.ensures, c.in-Reset.is)

pub returns-in-ClearErrors : goal.returns-in-ClearErrors
unfolding effect_of
returns-in-ClearErrors c = simp (c.clear_errors.ensures, c.in-ClearErrors.is)

pub returns-in-ClearBreakChange : goal.returns-in-ClearBreakChange
unfolding effect_of
returns-in-ClearBreakChange c = simp (c.clear_break_change.ensures, c.in-ClearBreakChange.is)
