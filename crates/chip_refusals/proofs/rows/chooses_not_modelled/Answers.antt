-- `chooses_not_modelled` meets its contract: a write by its own test, and no other event chooses a setting. Assumes nothing.
use native.Mathlib.Omega.{arith}
use Rattle.std.proofs.lemmas.Grind.{common_steps}
use Rattle.chip_refusals.specs.Rows.{setting_not_modelled}
use Rattle.chip_refusals.proofs.rows.chooses_not_modelled.Goals as goal

pub returns-in-Write : goal.returns-in-Write
unfolding setting_not_modelled
returns-in-Write c = simp (c.write_not_modelled.ensures, c.in-Write.is)

pub returns-in_default : goal.returns-in_default
unfolding setting_not_modelled
returns-in_default c = grind (arith, common_steps)
