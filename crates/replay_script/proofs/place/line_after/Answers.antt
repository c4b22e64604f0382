-- `line_after` meets its contract: a sum that is cut at the largest number is the definition's choice. Assumes nothing.
use native.Mathlib.Omega.{arith}
use Rattle.replay_script.specs.Place.{line_after}
use Rattle.format.specs.Pick.{pick}
use Rattle.replay_script.proofs.place.line_after.Goals as goal

pub returns : goal.returns
unfolding line_after pick
returns c = grind (arith, c.saturating_add.ensures, c.ranges.line.fits)
