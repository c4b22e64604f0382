-- `hear_value` meets its contract: a value of another wire changes nothing. Assumes nothing.
use Rattle.format.proofs.Laws.{steps}
use Rattle.vcd_capture.specs.Ear.{ear_value}
use Rattle.vcd_capture.proofs.ear.hear_value.Goals as goal

pub returns-then-code-own : goal.returns-then-code-own
unfolding ear_value
returns-then-code-own c = search steps

pub returns-else-code-own : goal.returns-else-code-own
unfolding ear_value
returns-else-code-own c = search steps
