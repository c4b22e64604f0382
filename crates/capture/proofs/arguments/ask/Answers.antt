-- `ask` meets its contract: each way through the test is the definition's. Assumes nothing.
use Rattle.format.proofs.Laws.{steps}
use Rattle.capture.specs.Arguments.{asked_of}
use Rattle.capture.proofs.arguments.ask.Goals as goal

pub returns-then-mr1-acr7 : goal.returns-then-mr1-acr7
unfolding asked_of
returns-then-mr1-acr7 c = search steps

pub returns : goal.returns
unfolding asked_of
returns c = search steps
