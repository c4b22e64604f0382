-- `cut` meets its contract: below 8 data bits the remainder by a power of two, and from 8 on a byte is whole. Assumes nothing.
use mathlib.Core.Path.{sym}
use native.Mathlib.Omega.{arith}
use Rattle.format.proofs.Laws.Digits.{cut_whole}
use Rattle.format.proofs.parity.cut.Goals as goal

pub returns : goal.returns
returns c =
    let a = c.args in
    sym (cut_whole 8 a.width.0 a.byte (omega arith) (omega arith))
