-- `odd_data` meets its contract: the parity of the byte cut to its data bits is that of the data bits. Assumes nothing.
use mathlib.Core.Path.{◌∙◌}
use native.Mathlib.Omega.{arith}
use Rattle.format.proofs.Laws.Digits.{odd_cut, cut_small}
use Rattle.format.proofs.parity.odd_data.Goals as goal

pub returns : goal.returns
returns c =
    let a = c.args in
    c.odd_ones.ensures ∙ rw c.cut.ensures (odd_cut 8 a.format.width.0 a.byte (cut_small 8 a.format.width.0 a.byte (omega arith)))
