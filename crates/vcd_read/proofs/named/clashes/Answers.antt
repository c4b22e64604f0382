-- `clashes` meets its contract: any of the others is asked. Assumes nothing.
use mathlib.Core.Path.{◌∙◌}
use mathlib.Core.Bool.{◌||◌}
use borrow.Author.Tests.{tests}
use lib.Dec.{eqb}
use Rattle.std.proofs.Common.{rules}
use Rattle.std.proofs.lemmas.Iterator.Search.{any_from_yields_List}
use Rattle.std.specs.Cmp.Lexicographic.{pointwise}
use Rattle.vcd_text.specs.Header.{Wire}
use Rattle.vcd_read.specs.Wires.{told, left}
use Rattle.vcd_read.proofs.Laws.Named.{gives_wires, clash_any}
use Rattle.vcd_read.proofs.named.clashes.Goals as goal

pub returns : goal.returns
returns c =
    any_from_yields_List (λ (v : Wire). eqb v.code c.args.wire.code || pointwise eqb v.name c.args.wire.name.now) _ _ _ c.any.ensures.ran (gives_wires c.args.others) (λ x b q k. search (rules, tests))
    ∙ clash_any (told c.args.wire) (left c.args.others)
