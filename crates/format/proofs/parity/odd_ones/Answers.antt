-- `odd_ones` meets its contract: the machine's count of set bits is odd when the list's is. Assumes nothing.
use native.Mathlib.Omega.{arith}
use Rattle.format.proofs.Laws.Digits.{odd_ones_lem}
use Rattle.format.proofs.parity.odd_ones.Goals as goal

pub returns : goal.returns
returns c = odd_ones_lem 8 c.args.byte (omega arith)
