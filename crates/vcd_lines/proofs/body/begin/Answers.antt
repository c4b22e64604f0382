use Rattle.format.proofs.Laws.{steps}
use Rattle.vcd_lines.specs.Body.{begun}
use Rattle.vcd_lines.proofs.body.begin.Goals as goal

pub returns-then-byte-eq35 : goal.returns-then-byte-eq35
unfolding begun
returns-then-byte-eq35 c = search steps

pub returns-then-timed-byte : goal.returns-then-timed-byte
unfolding begun
returns-then-timed-byte c = search steps

pub returns-else-timed-byte : goal.returns-else-timed-byte
unfolding begun
returns-else-timed-byte c = search steps
