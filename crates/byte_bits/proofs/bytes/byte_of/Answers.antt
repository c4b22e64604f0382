-- `byte_of` meets its contract: it is what its callees answer. Assumes nothing.
use Rattle.byte_bits.specs.Bytes.{byte_of}
use Rattle.byte_bits.proofs.bytes.byte_of.Goals as goal

pub returns : goal.returns
unfolding byte_of
returns c = simp (c.weight_of-8.ensures.0, c.weight_of-7.ensures.0, c.weight_of-6.ensures.0, c.weight_of-5.ensures.0, c.weight_of-4.ensures.0, c.weight_of-3.ensures.0, c.weight_of-2.ensures.0, c.weight_of.ensures.0)
