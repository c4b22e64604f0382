-- `tell_with_two` meets its contract: each way through the tests is the definition's. Assumes nothing.
use mathlib.Core.Path.{sym}
use Rattle.format.proofs.Laws.{steps}
use Rattle.replay_script.specs.Lines.{told_with_bytes}
use Rattle.replay_script.proofs.lines.tell_with_two.Goals as goal

pub returns-in-Some-Some : goal.returns-in-Some-Some
unfolding told_with_bytes
returns-in-Some-Some c = rw (sym c.byte_of.ensures, sym c.byte_of-2.ensures, c.in-Some-Some.is-0, c.in-Some-Some.is-1) (search steps)

pub returns-in_default : goal.returns-in_default
unfolding told_with_bytes
returns-in_default c = rw (sym c.byte_of.ensures, sym c.byte_of-2.ensures, c.in-Some-Some.is-0, c.in-Some-Some.is-1) (search steps)

pub returns-in_default-2 : goal.returns-in_default-2
unfolding told_with_bytes
returns-in_default-2 c = rw (sym c.byte_of.ensures, sym c.byte_of-2.ensures, c.in_default.is-0, c.in_default.is-1)

pub returns-in_default-3 : goal.returns-in_default-3
unfolding told_with_bytes
returns-in_default-3 c = rw (sym c.byte_of.ensures, sym c.byte_of-2.ensures, c.in_default.is-0)
