-- `mode_feed` meets its contract: each way through the test is the definition's, with the callee's answer. Assumes nothing.
use Rattle.format.proofs.Laws.{steps}
use Rattle.front_modes.specs.Modes.{mode_feed}
use Rattle.front_modes.proofs.modes.mode_feed.Goals as goal

pub returns-then-changes_mode : goal.returns-then-changes_mode
unfolding mode_feed
returns-then-changes_mode c = simp (← c.changes_mode.ensures) (search steps)

pub returns : goal.returns
unfolding mode_feed
returns c = simp (← c.changes_mode.ensures) (search steps)
