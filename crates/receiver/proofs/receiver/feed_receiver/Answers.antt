-- `feed_receiver` meets its contract: one arm a feed, each the callee's answer. Assumes nothing.
use Rattle.receiver.specs.Receiver.{fed_of}
use Rattle.receiver.proofs.receiver.feed_receiver.Goals as goal

pub returns-in-Nothing : goal.returns-in-Nothing
unfolding fed_of
returns-in-Nothing c = simp (c.no_read.ensures, c.in-Nothing.is)

pub returns-in-Pulse : goal.returns-in-Pulse
unfolding fed_of
returns-in-Pulse c = simp (c.no_read-in-Pulse.ensures, c.pulse.ensures, c.in-Pulse.is)

pub returns-in-Command : goal.returns-in-Command
unfolding fed_of
returns-in-Command c = simp (c.no_read-in-Command.ensures, c.take_enabling.ensures, c.take_effect.ensures, c.in-Command.is)

pub returns-in-Read : goal.returns-in-Read
unfolding fed_of
returns-in-Read c = simp (c.read.ensures, c.in-Read.is)

pub returns-in-ChipReset : goal.returns-in-ChipReset
unfolding fed_of
returns-in-ChipReset c = simp (c.no_read-in-ChipReset.ensures, c.fresh_receiver.ensures, c.in-ChipReset.is)
