-- `put_value` meets its contract: the three bytes of a line one after the other, or none. Assumes nothing.
use Prim.Native.Nat.{ℕ}
use mathlib.Core.Path.{sym, ◌∙◌, ap}
use mathlib.Core.List.{[], ◌∷◌}
use Rattle.format.proofs.Laws.Pick.{pick_yes, pick_no}
use Rattle.text.proofs.Laws.Pages.{writes_none, writes_then, writes_as}
use Rattle.vcd_text.specs.Lines.{line_text}
use Rattle.vcd_text.proofs.lines.put_value.Goals as goal

pub returns-then-changed : goal.returns-then-changed
unfolding line_text
returns-then-changed c =
    let a = c.args in
    writes_as (ap (λ (d : ℕ). d ∷ a.code ∷ 10 ∷ []) c.level_digit.ensures ∙ sym (pick_yes a.changed _ _ c.if-changed.true))
    (writes_then c.put.ensures (writes_then c.put-then-changed.ensures c.put-then-changed-2.ensures))

pub returns-else-changed : goal.returns-else-changed
returns-else-changed c =
    let a = c.args in
    writes_as (sym (pick_no a.changed _ _ c.if-changed.false)) (writes_none a.page.now)
