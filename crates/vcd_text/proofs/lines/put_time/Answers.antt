-- `put_time` meets its contract: `#`, the number and the line's end, one after the other. Assumes nothing.
use Prim.Native.Nat.{ℕ}
use mathlib.Core.Path.{ap}
use mathlib.Core.List.{[], ◌∷◌, ◌++◌}
use native.Mathlib.Omega.{arith}
use Rattle.text.specs.Decimal.{decimal_of}
use Rattle.text.proofs.Laws.Decimal.{decimal_within}
use Rattle.text.proofs.Laws.Pages.{writes_then, writes_as}
use Rattle.vcd_text.specs.Lines.{line_text}
use Rattle.vcd_text.proofs.lines.put_time.Goals as goal

pub put-requires-2 : goal.put-requires-2
put-requires-2 c =
    omega (arith, decimal_within 20 c.tick_time.result, c.put_decimal.ensures.puts.ends, c.put.ensures.puts.ends, c.requires)

pub returns : goal.returns
unfolding line_text
returns c =
    writes_as (ap (λ (n : ℕ). 35 ∷ decimal_of 20 n ++ 10 ∷ []) c.tick_time.ensures)
    (writes_then c.put.ensures (writes_then c.put_decimal.ensures c.put-2.ensures))
