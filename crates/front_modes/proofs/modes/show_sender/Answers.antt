-- `show_sender` meets its contract: each way through the test is the definition's, with the callees' answers. Assumes nothing.
use Rattle.format.proofs.Laws.{steps}
use Rattle.front_modes.specs.Modes.{sender_shown}
use Rattle.front_modes.proofs.modes.show_sender.Goals as goal

pub returns-then-echoes : goal.returns-then-echoes
unfolding sender_shown
returns-then-echoes c = simp (← c.echoes.ensures) (search steps)

pub returns : goal.returns
unfolding sender_shown
returns c = simp (c.transmitter_status.ensures, ← c.echoes.ensures) (search steps)
