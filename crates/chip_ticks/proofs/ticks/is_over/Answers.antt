-- `is_over` meets its contract: its tests are the definition's. Assumes nothing.
use Rattle.format.proofs.Laws.{steps}
use Rattle.chip_ticks.specs.Ticks.{is_over}
use Rattle.chip_ticks.proofs.ticks.is_over.Goals as goal

pub returns-then-left-eq0 : goal.returns-then-left-eq0
unfolding is_over
returns-then-left-eq0 c = search steps

pub returns-then-watch : goal.returns-then-watch
unfolding is_over
returns-then-watch c = simp c.device_lines-lines.ensures (search steps)

pub returns : goal.returns
unfolding is_over
returns c = search steps
