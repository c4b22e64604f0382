-- `step_front` meets its contract: one arm a register, each the definition's. Assumes nothing.
use Rattle.format.specs.Pick.{pick}
use Rattle.front_events.specs.FrontEvents.{front_stepped}
use Rattle.front_events.proofs.front_events.step_front.Goals as goal

pub returns-in-ChipReset : goal.returns-in-ChipReset
unfolding front_stepped pick
returns-in-ChipReset c = simp (c.reset_front.ensures, c.in-ChipReset.is)

pub returns-in-Read : goal.returns-in-Read
unfolding front_stepped pick
returns-in-Read c = simp (c.read_register.ensures, c.in-Read.is)

pub returns-in-Write : goal.returns-in-Write
unfolding front_stepped pick
returns-in-Write c = simp (c.write_register.ensures, c.in-Write.is)

pub returns-in-Acknowledge : goal.returns-in-Acknowledge
unfolding front_stepped pick
returns-in-Acknowledge c = simp (c.acknowledge.ensures, c.in-Acknowledge.is)

pub returns-in-Pins : goal.returns-in-Pins
unfolding front_stepped pick
returns-in-Pins c = simp (c.move_levels.ensures, c.in-Pins.is)

pub returns-in-Tick : goal.returns-in-Tick
unfolding front_stepped pick
returns-in-Tick c = simp (c.tick_front.ensures, c.in-Tick.is)
