-- `pulse_transmitter` meets its contract: each way through the tests is the definition's, with the callee's answer. Assumes nothing.
use Rattle.format.proofs.Laws.{steps}
use Rattle.transmitter.specs.Transmitter.{after_input}
use Rattle.front_side_clocks.specs.Clocking.{transmitter_pulsed}
use Rattle.front_side_clocks.proofs.clocking.pulse_transmitter.Goals as goal

pub returns-then-pulse-echoes : goal.returns-then-pulse-echoes
unfolding transmitter_pulsed after_input
returns-then-pulse-echoes c = simp (c.pulse.ensures, c.is_sixteen.ensures, ← c.echoes.ensures) (search steps)

pub returns : goal.returns
unfolding transmitter_pulsed
returns c = simp (← c.echoes.ensures) (search steps)
