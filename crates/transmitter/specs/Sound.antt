-- The ranges of a transmitter's fields, which "hold every value a rule here can put there". docs/SOUND.md lists the
-- same. A byte, a flag and the frame's bits may be any of their type. Assumes nothing.
use Rattle.std.specs.Prelude.{◌≡◌, Bool, true, ◌&&◌, leb}
use Rattle.transmitter_state.specs.declared.state.Transmitter.{Transmitter}
use Rattle.transmitter.specs.declared.transmitter.Input.{Input}
use Rattle.transmitter.specs.Frames.{Step}

-- four phases, "at most 192" pulses of a frame, at most 15 still to come after a break
abbrev pub transmitter_in_range : Transmitter → Bool
transmitter_in_range t =
    leb t.phase 3 && (leb t.shifter.length.0 192 && (leb t.shifter.sent.0 192 && leb t.left.0 15))

-- a way to take an input that keeps every field in its range, on every transmitter in range, reached or not
abbrev pub KeepsRanges : Step → Type 0
KeepsRanges step = (t : Transmitter) (x : Input) → transmitter_in_range t ≡ true → transmitter_in_range (step t x) ≡ true
