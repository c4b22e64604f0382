-- `change_mode` meets its contract: each way through the tests is the definition's, with the callee's answer. Assumes nothing.
use Rattle.format.proofs.Laws.{steps}
use Rattle.timer.specs.Timer.{mode_changed}
use Rattle.timer.proofs.timer.change_mode.Goals as goal

pub returns-then-mode_of-mode : goal.returns-then-mode_of-mode
unfolding mode_changed
returns-then-mode_of-mode c = simp (← c.mode_of-mode.ensures, ← c.mode_of.ensures) (search steps)

pub returns : goal.returns
unfolding mode_changed
returns c = simp (c.is_timer.ensures, ← c.mode_of-mode.ensures, ← c.mode_of.ensures) (search steps)
