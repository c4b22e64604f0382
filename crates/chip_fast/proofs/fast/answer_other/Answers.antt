-- `answer_other` meets its contract: each way is what its callee answers. Assumes nothing.
use Rattle.chip_fast.proofs.fast.answer_other.Goals as goal

pub returns-in-Acknowledge : goal.returns-in-Acknowledge
returns-in-Acknowledge c = simp (c.acknowledge.ensures, ← c.in-Acknowledge.is)

pub returns-in_default : goal.returns-in_default
returns-in_default c = c.step.ensures
