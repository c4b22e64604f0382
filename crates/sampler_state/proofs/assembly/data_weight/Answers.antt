-- `data_weight` meets its contract: there are at most eight data bits, so that a word holds the power of two. Assumes nothing.
use Prim.Native.Nat.{◌≤◌}
use native.Mathlib.Omega.{arith}
use Rattle.format.proofs.Laws.Digits.{power}
use Rattle.sampler_state.proofs.Laws.Assembly.{width_eight}
use Rattle.sampler_state.proofs.assembly.data_weight.Goals as goal

pub overflow_shl-result : goal.overflow_shl-result
overflow_shl-result c =
    let e : c.data_width-width.result.0 ≤ 8 = rw c.data_width-width.ensures (width_eight c.args.format) in
    omega arith

pub returns : goal.returns
returns c =
    let e : c.data_width-width.result.0 ≤ 8 = rw c.data_width-width.ensures (width_eight c.args.format) in
    rw (power 16 c.data_width-width.result.0 (omega arith), c.data_width-width.ensures)
