-- `write_acr` meets its contract: it is what its callees answer. Assumes nothing.
use Rattle.front_writes.specs.Writes.{acr_written}
use Rattle.front_writes.proofs.writes.write_acr.Goals as goal

pub returns : goal.returns
unfolding acr_written
returns c = simp (c.change_mode-timer.ensures, c.change_set-b.ensures, c.change_set-a.ensures)
