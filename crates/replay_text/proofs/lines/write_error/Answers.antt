-- `write_error` meets its contract: each part is put after those before it. Assumes nothing.
use native.Mathlib.Omega.{arith}
use Rattle.text.specs.Bytes.{bytes_of}
use Rattle.text.proofs.Laws.Decimal.{decimal_within}
use Rattle.text.proofs.Laws.Puts.{puts_front}
use Rattle.text.proofs.Laws.Pages.{writes_then}
use Rattle.replay_text.specs.Lines.{error_text}
use Rattle.replay_text.proofs.lines.write_error.Goals as goal

pub put-requires : goal.put-requires
put-requires c = omega (arith, decimal_within 20 c.args.line, c.put_decimal.ensures.puts.ends, c.put_bytes.ensures.puts.ends)

pub returns : goal.returns
unfolding error_text bytes_of
returns c =
    let written = writes_then c.put_bytes.ensures (writes_then c.put_decimal.ensures c.put.ensures) in
    let front = puts_front written.puts
    (omega (arith, decimal_within 20 c.args.line, c.put_decimal.ensures.puts.ends, c.put_bytes.ensures.puts.ends, c.put.ensures.puts.ends)) in
    record { within = front.0; text = front.1 }
