-- One name for what a proof by computing unfolds: what a capture makes of a text. It says nothing by itself. And what
-- the computed captures ask, with the lines of a few texts.
use Prim.Native.Nat.{ℕ}
use Prim.Native.String.{String}
use mathlib.Core.Bool.{Bool, true, false}
use mathlib.Core.List.{List, [], ◌∷◌, ◌++◌}
use Rattle.text.specs.Bytes.{bytes_of}
use Rattle.dividers.specs.Rates.{period_of}
use Rattle.sampler.specs.Lines.{after_lines, arrivals}
use Rattle.sampler.proofs.Computing as Sampling
use Rattle.vcd_text.specs.Lines.{level_at}
use Rattle.vcd_read.proofs.Computing.{reading, dump}
use Rattle.std.specs.Prelude.{Result}
use Rattle.std.specs.Result.{result_unwrap_or}
use Rattle.refusal.specs.declared.refusal.Refusal.{Refusal}
use Rattle.vcd_capture.specs.declared.capturing.Asked.{Asked}
use Rattle.vcd_capture.specs.declared.capturing.Captured.{Captured}
use Rattle.vcd_capture.specs.Logs.{marks_byte, character_bytes, log_bytes}
use Rattle.vcd_capture.specs.Ear.{ticks_before, pulses_before, ear_until, heard_until, ear_value, ear_said, heard_said}
use Rattle.vcd_capture.specs.Ear.{heard_from}
use Rattle.vcd_capture.specs.Capture.{setting_of, end_after, text_refusal, capture_refusal, number_of, captured_by, captured_of, log_after, handed_of}
use Rattle.vcd_capture.specs.Waves.{level_pulses}

unfoldable pub capturing : Bool
unfolding reading Sampling.computing period_of after_lines arrivals level_at marks_byte character_bytes log_bytes ticks_before
    pulses_before ear_until heard_until ear_value ear_said heard_said heard_from setting_of end_after
    text_refusal capture_refusal captured_by captured_of log_after handed_of level_pulses
capturing = true

-- MR1 16: 5 data bits, no parity. Code 12 with ACR bit 7 = 0: 38,400 baud, a pulse each 6 ticks; 26,042 ns a bit
abbrev pub fast : Asked
fast = record { mr1 = 16; acr7 = false; code = 12 }

-- the wires RxDA and RxDB: pulse 1 is at 1,627 ns and finds a high; from 2,000 on a low, and pulse 2 is p. The bits are
-- sampled by the pulses 26, 42, 58, 74 and 90, which stand at 42,317, 68,359, 94,401, 120,442 and 146,484, and the stop
-- by pulse 106 at 172,526. RxDA has 1, 0, 1, 0, 1 and RxDB 0, 1, 0, 1, 0.
abbrev pub bits : List String
bits =
    "#2000" ∷ "0!" ∷ "0\"" ∷ "#28042" ∷ "1!" ∷ "#54083" ∷ "0!" ∷ "1\"" ∷ "#80125" ∷ "1!" ∷ "0\"" ∷ "#106167" ∷ "0!"
    ∷ "1\"" ∷ "#132208" ∷ "1!" ∷ "0\"" ∷ "#158250" ∷ "1\"" ∷ []

abbrev pub both : List String
both = bits ++ "#172526" ∷ []

-- a time that is not later
abbrev pub late : List String
late = both ++ "#5" ∷ []

-- and RxDA a second time, with 1, 0, 0, 0, 0: pulse 123 is p, and pulse 227 at 369,466 samples the stop
abbrev pub twice : List String
twice = bits ++ "#200000" ∷ "0!" ∷ "#226042" ∷ "1!" ∷ "#252083" ∷ "0!" ∷ "#356250" ∷ "1!" ∷ "#369466" ∷ []

-- a whole text, and the names of its wires
abbrev pub text_of : List String → List ℕ
text_of body = dump body

abbrev pub wire_a : List ℕ
wire_a = bytes_of "RxDA"

abbrev pub wire_b : List ℕ
wire_b = bytes_of "RxDB"

abbrev pub handed : Asked → List String → Bool → List ℕ
handed q body channel_b = handed_of q (text_of body) wire_a wire_b 100 100 channel_b

-- the answer where the logs have so much room, its number, and what is filled
abbrev pub answer : Asked → List String → ℕ → ℕ → Result Captured Refusal
answer q body room_a room_b = captured_of q (text_of body) wire_a wire_b room_a room_b

abbrev pub number : Asked → List String → ℕ → ℕ → ℕ
number q body room_a room_b = number_of q (text_of body) wire_a wire_b room_a room_b

abbrev pub filled : Asked → List String → ℕ → ℕ → Captured
filled q body room_a room_b = result_unwrap_or (answer q body room_a room_b) (record { length_a = 0; length_b = 0 })
