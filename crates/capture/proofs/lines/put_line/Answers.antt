-- `put_line` meets its contract: each part is put after those before it. Assumes nothing.
use mathlib.Core.List.{append_assoc}
use Rattle.text.proofs.Laws.Pages.{writes_then, writes_as}
use Rattle.capture.specs.Lines.{character_line}
use Rattle.capture.proofs.lines.put_line.Goals as goal

pub returns : goal.returns
unfolding character_line
returns c =
    writes_as (simp append_assoc)
    (writes_then c.put.ensures (writes_then c.put-2.ensures (writes_then c.put_byte.ensures.text c.put_byte-2.ensures.text)))
