-- `show_txd` meets its contract: each way through the tests is the definition's, with the callees' answers. Assumes nothing.
use Rattle.format.proofs.Laws.{steps}
use Rattle.front_modes.specs.Modes.{txd_shown}
use Rattle.front_modes.proofs.modes.show_txd.Goals as goal

pub returns-then-is_local : goal.returns-then-is_local
unfolding txd_shown
returns-then-is_local c = simp (← c.is_local.ensures) (search steps)

pub returns-then-echoes : goal.returns-then-echoes
unfolding txd_shown
returns-then-echoes c = simp (← c.echoes.ensures, ← c.is_local.ensures) (search steps)

pub returns : goal.returns
unfolding txd_shown
returns c = simp (← c.echoes.ensures, ← c.is_local.ensures) (search steps)
