-- `put_byte` meets its contract: first the number is put, and then the separator. Assumes nothing.
use native.Mathlib.Omega.{arith}
use Rattle.text.proofs.Laws.Decimal.{decimal_within}
use Rattle.text.proofs.Laws.Pages.{writes_then}
use Rattle.replay_text.proofs.lines.put_byte.Goals as goal

pub put-requires : goal.put-requires
put-requires c = omega (arith, decimal_within 3 c.from.result, c.put_decimal.ensures.puts.ends, c.requires)

pub returns : goal.returns
returns c = record {
  within = omega (arith, decimal_within 3 c.from.result, c.put_decimal.ensures.puts.ends, c.put.ensures.puts.ends);
  text = rw (← c.from.ensures) (writes_then c.put_decimal.ensures c.put.ensures);
}
