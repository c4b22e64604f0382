-- `turn` meets its contract: the record's event, through the fast step. Assumes nothing.
use Prim.{tt}
use Rattle.poll.specs.Step.{turn_of}
use Rattle.poll.proofs.polling.turn.Goals as goal

pub event_of-requires : goal.event_of-requires
event_of-requires c = tt

pub sound_step-requires : goal.sound_step-requires
sound_step-requires c = tt

pub returns : goal.returns
unfolding turn_of
returns c = simp (c.sound_step.ensures, c.event_of.ensures)
