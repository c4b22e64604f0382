-- `event_data` meets its contract: one arm a register, each the definition's. Assumes nothing.
use Rattle.format.specs.Pick.{pick}
use Rattle.chip_answers.specs.Answers.{event_data}
use Rattle.chip_answers.proofs.answers.event_data.Goals as goal

pub returns-in-ChipReset : goal.returns-in-ChipReset
unfolding event_data pick
returns-in-ChipReset c = simp c.in-ChipReset.is

pub returns-in-Read : goal.returns-in-Read
unfolding event_data pick
returns-in-Read c = simp (c.register_data.ensures, c.in-Read.is)

pub returns-in-Write : goal.returns-in-Write
unfolding event_data pick
returns-in-Write c = simp c.in-Write.is

pub returns-in-Acknowledge : goal.returns-in-Acknowledge
unfolding event_data pick
returns-in-Acknowledge c = simp c.in-Acknowledge.is

pub returns-in-Pins : goal.returns-in-Pins
unfolding event_data pick
returns-in-Pins c = simp c.in-Pins.is

pub returns-in-Tick : goal.returns-in-Tick
unfolding event_data pick
returns-in-Tick c = simp c.in-Tick.is
