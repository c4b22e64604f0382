-- `pulse_of` meets its contract: each way through the test is the definition's, with the callee's answer. Assumes nothing.
use Rattle.format.proofs.Laws.{steps}
use Rattle.front_side_clocks.specs.Clocking.{pulse_of}
use Rattle.front_side_clocks.proofs.clocking.pulse_of.Goals as goal

pub returns-then-pulse : goal.returns-then-pulse
unfolding pulse_of
returns-then-pulse c = simp c.setting_of.ensures (search steps)

pub returns : goal.returns
unfolding pulse_of
returns c = search steps
