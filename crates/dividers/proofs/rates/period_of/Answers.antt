-- `period_of` meets its contract: it is the entry of the table that the set chooses. Assumes nothing.
use Rattle.format.proofs.Laws.{steps}
use Rattle.dividers.specs.Rates.{period_of}
use Rattle.dividers.proofs.rates.period_of.Goals as goal

pub returns-then-second : goal.returns-then-second
unfolding period_of
returns-then-second c = search (steps, c.period_in.ensures)

pub returns : goal.returns
unfolding period_of
returns c = search (steps, c.period_in-2.ensures)
