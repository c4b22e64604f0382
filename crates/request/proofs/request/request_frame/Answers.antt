-- `request_frame` meets its contract: the answer is the definition's, and as many levels as it says, the whole frame or none, are written.
-- Assumes nothing.
use mathlib.Core.Path.{ap}
use native.Mathlib.Omega.{arith}
use lib.ListN.{length}
use Rattle.request.specs.declared.request.FrameAnswer.{FrameAnswer}
use Rattle.request.proofs.Laws.Request.{request_within, over_answered}
use Rattle.request.proofs.request.request_frame.Goals as goal

pub write_levels-requires : goal.write_levels-requires
write_levels-requires c =
    let a = c.args in
    let told = ap (λ (r : FrameAnswer). r.length.0) c.in-Ok.ensures in
    omega (arith, told, request_within a.mr1 a.mr2 (length a.space.now))

pub returns-in-Ok-clause-space : goal.returns-in-Ok-clause-space
returns-in-Ok-clause-space c =
    let a = c.args in
    rw c.write_levels.ensures (over_answered a.mr1 a.mr2 a.byte a.space.now _ c.in-Ok.ensures)

pub returns-in-Err-clause-space : goal.returns-in-Err-clause-space
returns-in-Err-clause-space c =
    let a = c.args in
    over_answered a.mr1 a.mr2 a.byte a.space.now _ c.in-Err.ensures
