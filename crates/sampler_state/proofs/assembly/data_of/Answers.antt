-- `data_of` meets its contract: a remainder by at most 256 is a byte. Assumes nothing.
use native.Mathlib.Omega.{arith}
use Rattle.sampler_state.proofs.Laws.Assembly.{data_small}
use Rattle.sampler_state.proofs.assembly.data_of.Goals as goal

pub overflow_cast-result : goal.overflow_cast-result
overflow_cast-result c =
    let small = data_small c.args.format c.args.value in
    rw c.data_weight.ensures (omega arith)
