use Rattle.format.proofs.Laws.{steps}
use Rattle.vcd_lines.specs.Body.{must_end}
use Rattle.vcd_lines.proofs.body.must_end.Goals as goal

pub returns-then-byte-eq10 : goal.returns-then-byte-eq10
unfolding must_end
returns-then-byte-eq10 c = search steps

pub returns-else-byte-eq10 : goal.returns-else-byte-eq10
unfolding must_end
returns-else-byte-eq10 c = search steps
