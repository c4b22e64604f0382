-- `event_of` meets its contract: each kind by its own test; in the last arm no test held. Assumes nothing.
use Rattle.format.specs.Pick.{pick}
use Rattle.format.proofs.Laws.{steps}
use Rattle.records.specs.Records.{event_of}
use Rattle.records.proofs.records.event_of.Goals as goal

pub returns-in-0 : goal.returns-in-0
unfolding event_of pick
returns-in-0 c = simp c.in-0.is

pub returns-in-1 : goal.returns-in-1
unfolding event_of pick
returns-in-1 c = simp c.in-1.is

pub returns-in-2 : goal.returns-in-2
unfolding event_of pick
returns-in-2 c = simp c.in-2.is

pub returns-in-3 : goal.returns-in-3
unfolding event_of pick
returns-in-3 c = simp c.in-3.is

pub returns-in-4 : goal.returns-in-4
unfolding event_of pick
returns-in-4 c = simp c.in-4.is

pub returns-in-5 : goal.returns-in-5
unfolding event_of pick
returns-in-5 c = simp c.in-5.is

pub returns-in_default : goal.returns-in_default
unfolding event_of
returns-in_default c = search steps
