-- `twice` meets its contract. The invariant of its loop: the wires that are left decide. Assumes nothing.
use mathlib.Core.Path.{sym, ◌∙◌}
use Rattle.vcd_read.specs.Wires.{told, left}
use Rattle.vcd_read.proofs.Laws.Named.{twice_none, twice_yes, twice_no}
use Rattle.vcd_read.proofs.named.twice.Goals as goal

pub returns-then-clashes : goal.returns-then-clashes
returns-then-clashes c =
    sym (twice_yes (left c.loop-wire.wires) (told c.in-Some.wire) (left c.next.new.self) c.in-Some.ensures.steps.0 (sym c.clashes.ensures ∙ c.if-clashes.true))
    ∙ c.loop-wire.invariant

pub loop-wire-preserved : goal.loop-wire-preserved
loop-wire-preserved c =
    sym (twice_no (left c.loop-wire.wires) (told c.in-Some.wire) (left c.next.new.self) c.in-Some.ensures.steps.0 (sym c.clashes.ensures ∙ c.if-clashes.false))
    ∙ c.loop-wire.invariant

pub returns : goal.returns
returns c = sym (twice_none (left c.loop-wire.wires) c.in_default.ensures.steps.0) ∙ c.loop-wire.invariant
