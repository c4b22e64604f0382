-- `write_seen` meets its contract: each part is put after those before it. Assumes nothing.
use mathlib.Core.List.{append_assoc}
use native.Mathlib.Omega.{arith}
use Rattle.text.proofs.Laws.Puts.{puts_front}
use Rattle.text.proofs.Laws.Pages.{writes_then, writes_as}
use Rattle.replay_text.proofs.lines.write_seen.Goals as goal

pub returns : goal.returns
returns c =
    let front = puts_front
    (writes_as (simp append_assoc)
    (writes_then c.put_byte.ensures.text
    (writes_then c.put_byte-2.ensures.text
    (writes_then c.put_flag.ensures.text
    (writes_then c.put_flag-2.ensures.text
    (writes_then c.put_flag-3.ensures.text
    (writes_then c.put_byte-3.ensures.text c.put_flag-4.ensures.text))))))).puts
    (omega arith) in
    record { within = front.0; text = front.1 }
