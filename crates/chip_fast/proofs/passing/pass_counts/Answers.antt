-- `pass_counts` meets its contract: it is what its callees answer. Assumes nothing.
use Rattle.chip_fast.proofs.passing.pass_counts.Goals as goal

pub returns : goal.returns
returns c =
    simp (
      c.pass_side-4.ensures,
      c.pass_side-3.ensures,
      c.pass_side-2.ensures,
      c.pass_side.ensures,
      c.pass_timer-timer.ensures,
      c.mode_of.ensures,
    )
