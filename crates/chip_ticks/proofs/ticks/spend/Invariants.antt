-- What is spent already and what the ticks that are left will spend is what all of them spend. Assumes nothing.
use mathlib.Core.Path.{◌≡◌}
use Rattle.chip_ticks.specs.Ticks.{is_over}
use Rattle.chip_ticks.proofs.Laws.{Sofar}
use Rattle.chip_ticks.proofs.ticks.spend.Given as goal

abbrev pub invariant-loop-over : goal.invariant-loop-over
invariant-loop-over l =
    (l.over ≡ is_over l.watch l.left l.state) × Sofar l.watch l.initial.left l.initial.state l.left l.state

abbrev pub decreases-loop-over : goal.decreases-loop-over
decreases-loop-over l = l.left
