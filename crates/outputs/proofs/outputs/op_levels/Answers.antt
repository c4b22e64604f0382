-- `op_levels` meets its contract: without OPCR by the law of the plain levels, else it is what its callees answer. Assumes nothing.
use mathlib.Core.Path.{sym}
use borrow.Author.Rules.{rules}
use Rattle.outputs.specs.Outputs.{op_levels}
use Rattle.outputs.proofs.Laws.{plain_levels}
use Rattle.outputs.proofs.outputs.op_levels.Goals as goal

pub returns-then-outputs-eq0 : goal.returns-then-outputs-eq0
returns-then-outputs-eq0 c = sym (plain_levels _ _ _ c.if-outputs-eq0.true (search rules))

pub returns : goal.returns
unfolding op_levels
returns c = simp (c.byte_of-driven.ensures, c.has_bit-3.ensures, c.has_bit-2.ensures, c.has_bit.ensures, c.driven_op3.ensures, c.driven_by-4.ensures, c.driven_by-3.ensures, c.driven_by-2.ensures, c.driven_by.ensures)
