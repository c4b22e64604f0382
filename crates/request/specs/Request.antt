-- The frame request: "A separate request writes a frame's levels, one byte 0 or 1 per 16X pulse, at most 192, from MR1,
-- MR2 and a byte; space past it stays. It answers the number and the length, 0 if refused." Assumes nothing.
use Rattle.std.specs.Prelude.{ℕ, Bool, true, ◌||◌, List, ◌++◌, map, eqb, ltb, length, take, drop, Result, Ok, Err}
use Rattle.format.specs.declared.counts.Pulses.{Pulses}
use Rattle.request.specs.declared.request.FrameAnswer.{FrameAnswer}
use Rattle.format.specs.Pick.{pick}
use Rattle.format.specs.Digits.{bit}
use Rattle.format.specs.Format.{mr1_not_modelled, mr2_not_modelled, format_of, stop_code_of}
use Rattle.refusal.specs.declared.refusal.Refusal.{Refusal}
use Rattle.refusal.specs.Refusal.{number_of}
use Rattle.frame.specs.Levels.{before_stop, levels, frame, frame_length_of}

-- the pulses of the frame that is asked for, and its levels, one byte 0 or 1 for each
abbrev pub length_asked : ℕ → ℕ → Pulses
length_asked mr1 mr2 = frame_length_of true (format_of mr1) (stop_code_of mr2)

abbrev pub levels_asked : ℕ → ℕ → ℕ → List ℕ
levels_asked mr1 mr2 x = map bit (frame true (format_of mr1) (stop_code_of mr2) x)

-- 5: "a write (or frame request) choosing a setting not modelled"
abbrev pub not_modelled : ℕ → ℕ → Bool
not_modelled mr1 mr2 = mr1_not_modelled mr1 || mr2_not_modelled mr2

-- 8: "lent space shorter than the frame"
abbrev pub space_short : ℕ → ℕ → ℕ → Bool
space_short mr1 mr2 n = ltb n (length_asked mr1 mr2).0

-- "Checked in this order.": 5, then 8; 0 is accepted
unfoldable pub first_refusal : Bool → Bool → ℕ
first_refusal setting space = pick setting 5 (pick space 8 0)

-- "It answers the number and the length, 0 if refused."
unfoldable pub answer_of : ℕ → Pulses → FrameAnswer
answer_of number pulses = record { number = number; length = pick (eqb number 0) pulses (record { 0 = 0 }) }

-- the answer to a request with a space of `n` bytes
unfoldable pub request_of : ℕ → ℕ → ℕ → FrameAnswer
request_of mr1 mr2 n = answer_of (first_refusal (not_modelled mr1 mr2) (space_short mr1 mr2 n)) (length_asked mr1 mr2)

-- What the lent space holds then. Accepted: the levels, and "space past it stays". Refused: what it held (demand 1: "a
-- refused frame request writes nothing into the space it was lent").
unfoldable pub space_after : ℕ → ℕ → ℕ → List ℕ → List ℕ
space_after mr1 mr2 x s =
    pick (eqb (request_of mr1 mr2 (length s)).number 0) (levels_asked mr1 mr2 x ++ drop (length_asked mr1 mr2).0 s) s

-- How it is done: as many levels as the answer says are written over the front of the space, of bits that are followed
-- by a stop without end.
abbrev pub open_levels : ℕ → ℕ → ℕ → List ℕ
open_levels mr1 x n = map bit (levels 16 n (before_stop (format_of mr1) x))

abbrev pub over_front : List ℕ → ℕ → List ℕ → List ℕ
over_front l n s = take n l ++ drop n s

-- the answer to a request that is granted so many pulses, or refused
abbrev pub granted_answer : Result Pulses Refusal → FrameAnswer
granted_answer (Ok pulses) = record { number = 0; length = pulses }
granted_answer (Err refusal) = record { number = number_of refusal; length = record { 0 = 0 } }
