-- `stop_bits` meets its contract. Assumes nothing.
use Rattle.format.specs.Stop.{stop_bits_of}
use Rattle.format.proofs.Laws.{steps}
use Rattle.format.proofs.stop.stop_bits.Goals as goal

pub returns-then-code-eq1 : goal.returns-then-code-eq1
unfolding stop_bits_of
returns-then-code-eq1 c = search steps

pub returns : goal.returns
unfolding stop_bits_of
returns c = search steps
