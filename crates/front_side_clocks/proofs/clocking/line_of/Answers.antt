-- `line_of` meets its contract: each way through the tests is the definition's, with the callees' answers. Assumes nothing.
use Rattle.format.proofs.Laws.{steps}
use Rattle.front_side_clocks.specs.Clocking.{line_of}
use Rattle.front_side_clocks.proofs.clocking.line_of.Goals as goal

pub returns-then-side-is_remote : goal.returns-then-side-is_remote
unfolding line_of
returns-then-side-is_remote c = simp (← c.is_remote.ensures) (search steps)

pub returns-then-is_local : goal.returns-then-is_local
unfolding line_of
returns-then-is_local c = simp (c.pulse_of.ensures, ← c.is_local.ensures, ← c.is_remote.ensures) (search steps)

pub returns : goal.returns
unfolding line_of
returns c = simp (c.pulse_of-2.ensures, ← c.is_local.ensures, ← c.is_remote.ensures) (search steps)
