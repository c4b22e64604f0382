-- `pass_timer` meets its contract: the phase is the sum's, the count its callees'. Assumes nothing.
use Rattle.format.proofs.Laws.{steps}
use Rattle.timer.specs.Passing.{timer_passed}
use Rattle.timer.proofs.passing.pass_timer.Goals as goal

pub returns-then-runs : goal.returns-then-runs
unfolding timer_passed
returns-then-runs c =
    simp (c.count_on-count.ensures, c.pulses_in.ensures, ← c.runs.ensures) (search steps)

pub returns : goal.returns
unfolding timer_passed
returns c = simp (← c.runs.ensures) (search steps)
