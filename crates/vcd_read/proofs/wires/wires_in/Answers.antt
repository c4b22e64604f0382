-- `wires_in` meets its contract: what is left from the 47th byte on. Assumes nothing.
use mathlib.Core.Path.{◌∙◌, ap}
use lib.ListN.{drop}
use lib.Seq.{drop-drop}
use Rattle.std.proofs.lemmas.List.{take_rest}
use Rattle.vcd_read.specs.Wires.{wires_of, wires_end, left, beyond}
use Rattle.vcd_read.proofs.Laws.Wires.{from-wires}
use Rattle.vcd_read.proofs.wires.wires_in.Goals as goal

pub returns-clause-wires : goal.returns-clause-wires
unfolding left
returns-clause-wires c =
    let text = c.args.text.now in
    ap (wires_of 17) (take_rest text c.min.result ∙ from-wires text c.min.result c.min.ensures)

pub returns-clause-after : goal.returns-clause-after
unfolding beyond
returns-clause-after c =
    let text = c.args.text.now in
    ap (λ l. drop (wires_end 17 l) l) (take_rest text c.min.result ∙ from-wires text c.min.result c.min.ensures) ∙ drop-drop (wires_end 17 (drop 46 text)) 46 text
