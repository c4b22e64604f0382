-- `parity_bit` meets its contract: each way through the tests is the definition's. Assumes nothing.
use Rattle.format.specs.Parity.{parity_bit_of}
use Rattle.format.proofs.Laws.{steps}
use Rattle.format.proofs.parity.parity_bit.Goals as goal

pub returns-then-format : goal.returns-then-format
unfolding parity_bit_of
returns-then-format c = rw c.odd_data.ensures (search steps)

pub returns-then-format-eq-WITH : goal.returns-then-format-eq-WITH
unfolding parity_bit_of
returns-then-format-eq-WITH c = rw c.odd_data-then-format-eq-WITH.ensures (search steps)

pub returns : goal.returns
unfolding parity_bit_of
returns c = search steps
