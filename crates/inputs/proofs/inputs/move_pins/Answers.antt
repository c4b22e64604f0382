-- `move_pins` meets its contract: the definition's fields. Assumes nothing.
use borrow.Author.Rules.{rules}
use Rattle.inputs.specs.Inputs.{moved_of}
use Rattle.inputs.proofs.inputs.move_pins.Goals as goal

pub returns : goal.returns
unfolding moved_of
returns c = search rules
