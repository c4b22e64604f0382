-- `pulses_before` meets its contract. Assumes nothing.
use Rattle.format.proofs.Laws.{steps}
use Rattle.vcd_capture.specs.Ear.{pulses_before}
use Rattle.vcd_capture.proofs.ear.pulses_before.Goals as goal

pub returns-then-period-eq0 : goal.returns-then-period-eq0
unfolding pulses_before
returns-then-period-eq0 c = search steps

pub returns : goal.returns
unfolding pulses_before
returns c = simp c.ticks_before.ensures (search steps)
