-- `put` meets its contract: a place that the space does not have is not stored. Assumes nothing.
use mathlib.Core.Path.{sym}
use lib.Seq.{set_out}
use Rattle.text.proofs.putting.put.Goals as goal

-- src/putting.rt:9:1
pub returns-else-at-space : goal.returns-else-at-space
returns-else-at-space c = let a = c.args in sym (set_out a.space.now a.at a.byte c.if-at-space.false)
