-- `format_of` meets its contract: each field is the definition's. Assumes nothing.
use Rattle.format.specs.Format.{format_of}
use Rattle.format.proofs.Laws.{steps}
use Rattle.format.proofs.format.format_of.Goals as goal

pub returns : goal.returns
unfolding format_of
returns c = search steps
