-- Wrong answers, each shut out by a definition: a routine that gave it would not meet its contract. Assumes nothing.
use Prim.Native.Nat.{ℕ}
use mathlib.Core.Path.{◌≡◌, ap}
use mathlib.Core.Bool.{Bool, true, false, true≢false}
use mathlib.Core.List.{List, [], ◌∷◌}
use native.Mathlib.Omega.{arith}
use lib.ListN.{get_or, replicate}
use Rattle.std.specs.Prelude.{Ok}
use Rattle.format.specs.Pick.{pick}
use Rattle.request.specs.Request.{first_refusal, answer_of, request_of, space_after}
use Rattle.chip_answers.specs.Answers.{no_lines}
use Rattle.chip_device.specs.declared.device.Device.{Device}
use Rattle.chip_device.specs.Device.{fresh_device, is_sound_of}
use Rattle.chip_device.proofs.Examples.{five_flags}
use Rattle.chip_step.specs.declared.chip.Answer.{Answer}
use Rattle.chip_step.specs.Chip.{step_of}
use Rattle.records.specs.Records.{event_of}
use Rattle.poll.specs.Poll.{seen_in}
use Rattle.chip_laws.proofs.Computing.{computing}
use Rattle.vcd_capture.proofs.Computing.{capturing, fast, twice, text_of, wire_a, wire_b}
use Rattle.duart.specs.declared.duart.CaptureAnswer.{CaptureAnswer}
use Rattle.duart.specs.Duart.{capture_seen, CaptureShown}

-- the fresh device after a tick, which is a record of kind 5
abbrev ticked : Device
ticked = (step_of fresh_device (event_of (record { kind = 5; reg = 0; byte = 0 }))).state

-- "The answer has the number, the data byte (0 where none is read)"
no_byte_for_number : ((a : Answer) → a.byte ≡ (seen_in a).number) → ⊥
no_byte_for_number h = omega (arith, h (record { number = 2; byte = 0; fresh = false; lines = no_lines; state = fresh_device }))

no_every_device_sound : ((d : Device) → true ≡ is_sound_of d) → ⊥
unfolding computing
no_every_device_sound h = true≢false (h five_flags)

-- "A fresh device is the state after a chip reset": this one has had a tick since
no_fresh_after_tick : ticked.front.timer.ticks.0 ≡ fresh_device.front.timer.ticks.0 → ⊥
unfolding computing event_of
no_fresh_after_tick = omega arith

-- "from MR1, MR2 and a byte": this one sends MR1 for the byte
no_frame_of_mr1 : ((mr1 mr2 x : ℕ) (s : List ℕ) → space_after mr1 mr2 mr1 s ≡ space_after mr1 mr2 x s) → ⊥
unfolding computing space_after request_of answer_of first_refusal
no_frame_of_mr1 h = omega (arith, ap (λ (s : List ℕ). get_or s 16 0) (h 19 7 0 (replicate 200 7)))

-- order 7: "the caller names a channel and is handed the filled part of that channel's log": the other channel's length
no_other_length : 2 ≡ (capture_seen (Ok (record { length_a = 4; length_b = 2 })) false).length → ⊥
unfolding capture_seen pick
no_other_length = omega arith

-- of a text whose first wire has a 21 and a 1, and the second a 10: each log has its own channel's, and past them what
-- it held; "both logs stay" where one is too short
abbrev Shown : List ℕ → List ℕ → List ℕ → List ℕ → Bool → CaptureAnswer → Type 0
Shown before_a before_b after_a after_b channel_b r =
    CaptureShown fast (text_of twice) wire_a wire_b before_a before_b after_a after_b channel_b r

capture_filled : (after_a after_b : List ℕ) (r : CaptureAnswer)
    → Shown (7 ∷ 7 ∷ 7 ∷ 7 ∷ 7 ∷ []) (9 ∷ 9 ∷ []) after_a after_b true r
    → (after_a ≡ 21 ∷ 0 ∷ 1 ∷ 0 ∷ 7 ∷ []) × (after_b ≡ 10 ∷ 0 ∷ []) × (r ≡ record { number = 0; length = 2 })
unfolding capturing capture_seen
capture_filled after_a after_b r m = (m.first, m.second, m.answer)

capture_stays : (after_a after_b : List ℕ) (r : CaptureAnswer) → Shown (7 ∷ 7 ∷ 7 ∷ []) (9 ∷ 9 ∷ []) after_a after_b true r
    → (after_a ≡ 7 ∷ 7 ∷ 7 ∷ []) × (after_b ≡ 9 ∷ 9 ∷ []) × (r ≡ record { number = 8; length = 0 })
unfolding capturing capture_seen
capture_stays after_a after_b r m = (m.first, m.second, m.answer)
