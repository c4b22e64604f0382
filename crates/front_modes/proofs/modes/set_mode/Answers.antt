-- `set_mode` meets its contract: each way through the test is the definition's, with the callees' answers. Assumes nothing.
use Rattle.format.proofs.Laws.{steps}
use Rattle.front_modes.specs.Modes.{mode_set}
use Rattle.front_modes.proofs.modes.set_mode.Goals as goal

pub returns-then-changes_mode : goal.returns-then-changes_mode
unfolding mode_set
returns-then-changes_mode c = simp (c.step_transmitter-transmitter.ensures, c.write_mode-s.ensures, ← c.changes_mode.ensures) (search steps)

pub returns : goal.returns
unfolding mode_set
returns c = simp (c.write_mode-s.ensures, ← c.changes_mode.ensures) (search steps)
