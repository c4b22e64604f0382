-- `event_fresh` meets its contract: one arm an event, each the definition's. Assumes nothing.
use Rattle.format.specs.Pick.{pick}
use Rattle.chip_answers.specs.Answers.{event_fresh}
use Rattle.chip_answers.proofs.answers.event_fresh.Goals as goal

pub returns-in-ChipReset : goal.returns-in-ChipReset
unfolding event_fresh pick
returns-in-ChipReset c = simp c.in-ChipReset.is

pub returns-in-Read : goal.returns-in-Read
unfolding event_fresh pick
returns-in-Read c = simp (c.register_fresh.ensures, c.in-Read.is)

pub returns-in-Write : goal.returns-in-Write
unfolding event_fresh pick
returns-in-Write c = simp c.in-Write.is

pub returns-in-Acknowledge : goal.returns-in-Acknowledge
unfolding event_fresh pick
returns-in-Acknowledge c = simp c.in-Acknowledge.is

pub returns-in-Pins : goal.returns-in-Pins
unfolding event_fresh pick
returns-in-Pins c = simp c.in-Pins.is

pub returns-in-Tick : goal.returns-in-Tick
unfolding event_fresh pick
returns-in-Tick c = simp c.in-Tick.is
