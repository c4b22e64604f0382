-- `step_record` meets its contract: the record's event, through the step by value. Assumes nothing.
use Prim.{tt}
use Rattle.duart.proofs.duart.step_record.Goals as goal

pub event_of-requires : goal.event_of-requires
event_of-requires c = tt

pub swift_step-requires : goal.swift_step-requires
swift_step-requires c = tt

pub returns : goal.returns
returns c = simp (c.swift_step.ensures, c.event_of.ensures)
