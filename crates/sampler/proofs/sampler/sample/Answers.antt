-- `sample` meets its contract: the phase chooses the rule, and the answer is the callee's. Assumes nothing.
use Rattle.format.specs.Pick.{pick}
use Rattle.format.proofs.Laws.{steps}
use Rattle.sampler.specs.Sampler.{sample_of}
use Rattle.sampler.proofs.sampler.sample.Goals as goal

pub returns-in-1 : goal.returns-in-1
unfolding sample_of pick
returns-in-1 c = rw (c.look_again.ensures, c.in-1.is)

pub returns-in-2 : goal.returns-in-2
unfolding sample_of pick
returns-in-2 c = rw (c.assemble.ensures, c.in-2.is)

pub returns-in-3 : goal.returns-in-3
unfolding sample_of pick
returns-in-3 c = rw (c.follow_low_stop.ensures, c.in-3.is)

pub returns-in-4 : goal.returns-in-4
unfolding sample_of pick
returns-in-4 c = rw (c.wait_for_end.ensures, c.in-4.is)

pub returns-in_default : goal.returns-in_default
unfolding sample_of
returns-in_default c = simp c.hunt.ensures (search steps)
