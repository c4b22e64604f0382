-- `pulse` meets its contract: the sampler's answer goes through the three callees in turn. Assumes nothing.
use Rattle.receiver_state.specs.Arrivals.{pulsed_of}
use Rattle.receiver_state.proofs.arrivals.pulse.Goals as goal

pub returns : goal.returns
unfolding pulsed_of
returns c = simp (c.arrive.ensures, c.start-begun.ensures, c.hear-heard.ensures, c.sample-answer.ensures)
