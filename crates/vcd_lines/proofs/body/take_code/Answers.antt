use Rattle.format.proofs.Laws.{steps}
use Rattle.vcd_lines.specs.Body.{coded}
use Rattle.vcd_lines.proofs.body.take_code.Goals as goal

pub returns-then-known : goal.returns-then-known
unfolding coded
returns-then-known c = search steps

pub returns-else-known : goal.returns-else-known
unfolding coded
returns-else-known c = search steps
