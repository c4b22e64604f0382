-- `add_said` meets its contract, line by line. Assumes nothing.
use mathlib.Core.Logic.{inl, inr}
use Rattle.vcd_read.specs.Scan.{times_said}
use Rattle.vcd_read.proofs.checking.add_said.Goals as goal

pub returns-in-TimeLine : goal.returns-in-TimeLine
unfolding times_said
returns-in-TimeLine c = simp (c.in-TimeLine.is, c.not_later.ensures)

pub returns-in-NoLine : goal.returns-in-NoLine
unfolding times_said
returns-in-NoLine c = elim c.in-NoLine.is [ inl e ↦ simp e | inr e ↦ simp e.2 ]
