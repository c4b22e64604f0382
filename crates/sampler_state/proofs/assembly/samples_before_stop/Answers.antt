-- `samples_before_stop` meets its contract: at most eight data bits, so that one more is still a byte. Assumes nothing.
use Prim.Native.Nat.{◌≤◌}
use native.Mathlib.Omega.{arith}
use Rattle.format.proofs.Laws.{steps}
use Rattle.sampler_state.specs.Assembly.{samples_of}
use Rattle.sampler_state.proofs.Laws.Assembly.{width_eight}
use Rattle.sampler_state.proofs.assembly.samples_before_stop.Goals as goal

pub overflow_add-result : goal.overflow_add-result
overflow_add-result c =
    let e : c.data_width-width.result.0 ≤ 8 = rw c.data_width-width.ensures (width_eight c.args.format) in
    omega arith

pub returns-then-has_parity : goal.returns-then-has_parity
unfolding samples_of
returns-then-has_parity c = simp (← c.has_parity.ensures, c.data_width-width.ensures) (search steps)

pub returns : goal.returns
unfolding samples_of
returns c = simp (← c.has_parity.ensures, c.data_width-width.ensures) (search steps)
