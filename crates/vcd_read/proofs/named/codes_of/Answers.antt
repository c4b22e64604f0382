-- `codes_of` meets its contract. The invariant of its loop: the wires that are left fill the rest. Assumes nothing.
use mathlib.Core.Path.{sym, ◌∙◌}
use Rattle.vcd_read.specs.Wires.{told, left}
use Rattle.vcd_read.proofs.Laws.Named.{filled_none, filled_more}
use Rattle.vcd_read.proofs.named.codes_of.Goals as goal

pub loop-wire-preserved : goal.loop-wire-preserved
loop-wire-preserved c =
    sym (filled_more (left c.loop-wire.wire-iterator) c.loop-wire.codes (told c.in-Some.wire) (left c.next.new.self) c.in-Some.ensures.steps.0) ∙ c.loop-wire.invariant

pub returns : goal.returns
returns c = sym (filled_none (left c.loop-wire.wire-iterator) c.loop-wire.codes c.in-None.ensures.steps.0) ∙ c.loop-wire.invariant
