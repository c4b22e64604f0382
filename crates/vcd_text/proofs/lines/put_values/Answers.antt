-- `put_values` meets its contract. The invariant of its loop: the lines of the wires that are left lead to the page that is asked. A turn puts the
-- line of the next wire, if it has one. Assumes nothing.
use Prim.Native.Nat.{ℕ, suc, ◌+◌, ◌-◌, ◌%◌, ◌≤◌}
use mathlib.Core.Path.{◌≡◌, ◌∙◌}
use native.Mathlib.Omega.{arith}
use mathlib.Core.Bool.{Bool, not, ◌||◌}
use mathlib.Core.List.{List, []}
use lib.Dec.{eqb}
use Rattle.format.specs.Pick.{pick}
use Rattle.text.specs.Puts.{Puts}
use Rattle.text.proofs.Laws.Pages.{remains_all, remains_as, remains_then, remains_none}
use Rattle.vcd_text.specs.Changes.{value_line}
use Rattle.vcd_text.proofs.Laws.Changes.{value_within}
use Rattle.vcd_text.proofs.Laws.Words.{next_wire, no_wire}
use Rattle.vcd_text.proofs.lines.put_values.Goals as goal
use Rattle.vcd_text.proofs.lines.put_values.Goals.{then-none, else-none}

value-ends : {at end : ℕ} {s t : List ℕ} (changed : Bool) (code : ℕ) (level : Bool) → Puts at (pick changed (value_line code level) []) s t end → end ≤ at + 3
value-ends {at} {end} changed code level p = let l = value_within changed code level in omega (arith, p.ends)

pub loop-code-init : goal.loop-code-init
loop-code-init c = (omega arith, remains_all _ _)

pub loop-code-preserved : goal.loop-code-preserved
loop-code-preserved c =
    let a = c.args in
    let here = c.loop-code in
    let new : Bool = a.none || not (eqb (here.old % 2) (here.new % 2)) in
    let w : 44 - here.code ≡ suc (44 - (here.code + 1)) = omega arith in
    let is : c.if-none.changed ≡ new = elim c.if-none.branch [ then-none w ↦ w.changed-is ∙ rw w.if-none.true | else-none w ↦ w.changed-is ∙ rw w.if-none.false ] in
    let p = rw is at c.put_value.ensures in
    let l = value-ends new here.code (eqb (here.new % 2) 1) p.puts in (
      omega arith,
      remains_then (remains_as (next_wire a.none (44 - (here.code + 1)) here.code here.old here.new) (rw w at here.invariant.1)) p,
    )

pub returns : goal.returns
returns c =
    let e : 44 - c.loop-code.code ≡ 0 = omega arith in
    remains_none (remains_as (no_wire _ _ _) (rw e at c.loop-code.invariant.1))
