-- `has_bit` meets its contract: its tests are the definition's. Assumes nothing.
use Rattle.format.proofs.Laws.{steps}
use Rattle.byte_bits.specs.Bytes.{has_bit}
use Rattle.byte_bits.proofs.bytes.has_bit.Goals as goal

pub returns-then-number-lt8 : goal.returns-then-number-lt8
unfolding has_bit
returns-then-number-lt8 c = search steps

pub returns : goal.returns
unfolding has_bit
returns c = search steps
