-- `put_decimal` meets its contract: it calls itself with one place less for all digits but the last, and puts that after them. Assumes nothing.
use Prim.Native.Nat.{◌-◌, ◌/◌, ◌%◌}
use mathlib.Core.Path.{◌≡◌, sym}
use native.Mathlib.Omega.{arith}
use Rattle.text.proofs.Laws.Decimal.{decimal_none, decimal_last, decimal_more, decimal_within}
use Rattle.text.proofs.Laws.Pages.{writes_none, writes_then, writes_as}
use Rattle.text.proofs.putting.Page.+put_decimal.Goals as goal
use Rattle.text.proofs.putting.Page.+put_decimal.Goals.{then-number-ge10, else-number-ge10}

pub returns-then-places-eq0 : goal.returns-then-places-eq0
returns-then-places-eq0 t c =
    let a = c.args in
    writes_as (sym (decimal_none a.places a.number c.if-places-eq0.true)) (writes_none a.self.now)

pub put-requires : goal.put-requires
put-requires t c = elim c.if-number-ge10.branch [
  | then-number-ge10 w ↦
      let d = decimal_within (c.args.places - 1) (c.args.number / 10) in
      rw w.self-is (omega (arith, d, w.put_decimal.ensures.puts.ends))
  | else-number-ge10 w ↦ rw w.self-is (omega arith)
]

pub returns : goal.returns
returns t c =
    let a = c.args in elim c.if-number-ge10.branch [
      | then-number-ge10 w ↦
          writes_as (sym (decimal_more a.places a.number (omega arith) (omega arith)))
          (writes_then w.put_decimal.ensures (rw w.self-is at c.put.ensures))
      | else-number-ge10 w ↦
          let few : a.number % 10 ≡ a.number = omega arith in
          writes_as (sym (decimal_last a.places a.number (omega arith) (omega arith))) (rw (w.self-is, few) at c.put.ensures)
    ]
