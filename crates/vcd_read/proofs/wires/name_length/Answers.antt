-- `name_length` meets its contract: the bytes taken while they are visible, of the first 33, are the name. Assumes nothing.
use mathlib.Core.Path.{◌∙◌, ap}
use lib.ListN.{length}
use borrow.Author.Tests.{tests}
use Rattle.std.proofs.Common.{rules}
use Rattle.std.specs.Char.{is_ascii_graphic}
use Rattle.std.proofs.lemmas.Iterator.{YieldsList-from_slice, YieldsList-from_take}
use Rattle.std.proofs.lemmas.Iterator.Consumers.{count_from_yields_List, YieldsList-at}
use Rattle.std.proofs.lemmas.Iterator.Search.{YieldsList-from_take_while}
use Rattle.vcd_read.proofs.Laws.Starts.{name_is}
use Rattle.vcd_read.proofs.wires.name_length.Goals as goal

pub returns : goal.returns
returns c =
    count_from_yields_List c.take_while.result _ c.count.ensures.ran
    (YieldsList-from_take_while _ is_ascii_graphic
    (YieldsList-at c.take_while.ensures.source (YieldsList-from_take 33 (YieldsList-at c.take.ensures.source (YieldsList-from_slice c.args.text.now cc)) c.take.ensures.count))
    c.take_while.ensures.closure c.take_while.ensures.done (λ x b q k. search (rules, tests)))
    ∙ ap length (name_is 33 c.args.text.now)
