-- `code_named` meets its contract: the first wire of the name is found. Assumes nothing.
use mathlib.Core.Path.{◌≡◌, ◌∙◌, ap}
use borrow.Author.Tests.{tests}
use lib.Dec.{eqb}
use Rattle.std.proofs.Common.{rules}
use Rattle.std.proofs.lemmas.Iterator.Search.{find_from_yields_List}
use Rattle.std.specs.Cmp.Lexicographic.{pointwise}
use Rattle.std.specs.Option.{MatchOption, IsSomeAnd, option_map}
use Rattle.std.specs.Prelude.{ℕ, Option, None, Some}
use Rattle.vcd_read.specs.declared.wires.WireHere.{WireHere}
use Rattle.vcd_text.specs.Header.{Wire}
use Rattle.vcd_read.specs.Wires.{told, left}
use Rattle.vcd_read.proofs.Laws.Named.{gives_wires, named_find}
use Rattle.vcd_read.proofs.named.code_named.Goals as goal

mapped : (o : Option WireHere) (r : Option ℕ) → MatchOption o (r ≡ None) (λ x. IsSomeAnd r (λ c. c ≡ x.code))
    → r ≡ option_map (λ v. v.code) (option_map told o)
mapped None r h = h
mapped (Some x) None h = absurd h
mapped (Some x) (Some c) h = ap Some h

pub returns : goal.returns
returns c =
    let found = find_from_yields_List (λ (v : Wire). pointwise eqb v.name c.args.name.now) _ _ c.find.result c.find.ensures.ran (gives_wires c.args.wires) (λ x b q k. search (rules, tests)) in
    mapped c.find.result c.map.result (search rules) ∙ ap (option_map (λ (v : Wire). v.code)) found ∙ named_find c.args.name.now (left c.args.wires)
