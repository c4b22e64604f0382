-- `arrive` meets its contract: one arm a case of the sampler's answer. Assumes nothing.
use Rattle.receiver_state.specs.Arrivals.{arrived_of}
use Rattle.receiver_state.proofs.arrivals.arrive.Goals as goal

pub returns-in-None : goal.returns-in-None
unfolding arrived_of
returns-in-None c = simp c.in-None.is

pub returns-in-Some : goal.returns-in-Some
unfolding arrived_of
returns-in-Some c = simp (c.enter.ensures, c.in-Some.is)
