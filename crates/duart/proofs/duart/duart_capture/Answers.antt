-- `duart_capture` meets its contract, which is `read_capture`'s with the length of the channel named. Assumes nothing.
use mathlib.Core.Path.{◌∙◌}
use Rattle.duart.proofs.duart.duart_capture.Goals as goal

pub returns : goal.returns
returns c =
    let met = c.read_capture-captured.ensures in
    record { answer = c.capture_seen.ensures ∙ rw met.answer; first = met.first; second = met.second }
