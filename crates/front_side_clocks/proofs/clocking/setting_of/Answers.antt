-- `setting_of` meets its contract: it is what its callees answer. Assumes nothing.
use Rattle.front_side_clocks.proofs.clocking.setting_of.Goals as goal

pub returns : goal.returns
returns c = simp (c.is_sixteen.ensures, c.format_of.ensures)
