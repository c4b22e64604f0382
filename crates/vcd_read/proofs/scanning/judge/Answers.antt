-- `judge` meets its contract: each test is the definition's. Assumes nothing.
use Rattle.format.proofs.Laws.{steps}
use Rattle.vcd_read.specs.Scan.{judged}
use Rattle.vcd_read.proofs.scanning.judge.Goals as goal

pub returns-then-not-is_at_line_start : goal.returns-then-not-is_at_line_start
unfolding judged
returns-then-not-is_at_line_start c = simp (← c.is_at_line_start.ensures) (search steps)

pub returns-then-checked : goal.returns-then-checked
unfolding judged
returns-then-checked c = simp (← c.is_at_line_start.ensures) (search steps)

pub returns : goal.returns
unfolding judged
returns c = simp (← c.is_at_line_start.ensures) (search steps)
