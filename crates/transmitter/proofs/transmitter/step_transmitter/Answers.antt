-- `step_transmitter` meets its contract: one arm an input, each the callee's answer. Assumes nothing.
use Rattle.transmitter.specs.Transmitter.{after_input}
use Rattle.transmitter.proofs.transmitter.step_transmitter.Goals as goal

pub returns-in-Nothing : goal.returns-in-Nothing
unfolding after_input
returns-in-Nothing c = simp c.in-Nothing.is

pub returns-in-Pulse : goal.returns-in-Pulse
unfolding after_input
returns-in-Pulse c = simp (c.pulse.ensures, c.in-Pulse.is)

pub returns-in-Write : goal.returns-in-Write
unfolding after_input
returns-in-Write c = simp (c.write.ensures, c.in-Write.is)

pub returns-in-Enable : goal.returns-in-Enable
unfolding after_input
returns-in-Enable c = simp (c.enable.ensures, c.in-Enable.is)

pub returns-in-Disable : goal.returns-in-Disable
unfolding after_input
returns-in-Disable c = simp (c.disable.ensures, c.in-Disable.is)

pub returns-in-StartBreak : goal.returns-in-StartBreak
unfolding after_input
returns-in-StartBreak c = simp (c.ask_break.ensures, c.in-StartBreak.is)

pub returns-in-StopBreak : goal.returns-in-StopBreak
unfolding after_input
returns-in-StopBreak c = simp (c.end_break.ensures, c.in-StopBreak.is)

pub returns-in-Reset : goal.returns-in-Reset
unfolding after_input
returns-in-Reset c = simp (c.reset.ensures, c.in-Reset.is)

pub returns-in-ChipReset : goal.returns-in-ChipReset
unfolding after_input
returns-in-ChipReset c = simp (c.fresh_transmitter.ensures, c.in-ChipReset.is)

pub returns-in-ModeChange : goal.returns-in-ModeChange
unfolding after_input
returns-in-ModeChange c = simp (c.drop_sending.ensures, c.in-ModeChange.is)
