-- `capture` meets its contract: the part is that of the log which the channel names. Assumes nothing.
use mathlib.Core.Path.{◌∙◌}
use Rattle.vcd_capture.proofs.Laws.Capture.{part-a, part-b}
use Rattle.vcd_capture.proofs.capturing.capture.Goals as goal

pub slice_bounds-result-end : goal.slice_bounds-result-end
slice_bounds-result-end c = (part-b _ _ _ _ _ _ _ _ _ c.read_capture-captured.ensures _ c.unwrap_or-filled.ensures).1

pub returns-then-channel_b : goal.returns-then-channel_b
returns-then-channel_b c = (part-b _ _ _ _ _ _ _ _ _ c.read_capture-captured.ensures _ c.unwrap_or-filled.ensures).0 ∙ rw c.if-channel_b.true

pub slice_bounds-result-end-2 : goal.slice_bounds-result-end-2
slice_bounds-result-end-2 c = (part-a _ _ _ _ _ _ _ _ _ c.read_capture-captured.ensures _ c.unwrap_or-filled.ensures).1

pub returns : goal.returns
returns c = (part-a _ _ _ _ _ _ _ _ _ c.read_capture-captured.ensures _ c.unwrap_or-filled.ensures).0 ∙ rw c.if-channel_b.false
