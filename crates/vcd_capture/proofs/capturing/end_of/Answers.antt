-- `end_of` meets its contract. Assumes nothing.
use Rattle.vcd_capture.specs.Capture.{end_after}
use borrow.Author.Rules.{rules}
use Rattle.vcd_capture.proofs.capturing.end_of.Goals as goal

pub returns-in-Some : goal.returns-in-Some
unfolding end_after
returns-in-Some c = (rw c.in-Some.is (search rules), search rules)

pub returns-in-None : goal.returns-in-None
unfolding end_after
returns-in-None c = (simp c.in-None.is, search rules)
