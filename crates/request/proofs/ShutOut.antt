-- Wrong answers, each shut out by a definition: a routine that gave it would not meet its contract. Assumes nothing.
use Prim.Native.Nat.{ℕ}
use mathlib.Core.Path.{◌≡◌, ap}
use mathlib.Core.Bool.{Bool, true, false, ◌&&◌, false≢true}
use mathlib.Core.List.{List}
use native.Mathlib.Omega.{arith}
use lib.ListN.{get_or, replicate}
use Rattle.format.specs.declared.counts.Pulses.{Pulses}
use Rattle.format.specs.Pick.{pick}
use Rattle.format.specs.Digits.{bit, bits_of, value_of}
use Rattle.format.specs.Format.{mr1_not_modelled, mr2_not_modelled, format_of}
use Rattle.format.specs.Parity.{parity_bits}
use Rattle.format.specs.Stop.{stop_length_of}
use Rattle.frame.specs.Levels.{before_stop, bits_before_stop_of, spread, levels, frame, frame_length_of, frame_bits_of, level_of}
use Rattle.request.specs.Request.{not_modelled, first_refusal, answer_of, request_of, space_after}

-- "Checked in this order."
no_eight_first : ((setting space : Bool) → pick space 8 (pick setting 5 0) ≡ first_refusal setting space) → ⊥
unfolding first_refusal pick
no_eight_first h = omega (arith, h true true)

no_every_request_refused : 8 ≡ first_refusal false false → ⊥
unfolding first_refusal pick
no_every_request_refused = omega arith

-- "It answers the number and the length, 0 if refused."
no_always160 : ((p : Pulses) → 160 ≡ (answer_of 0 p).length.0) → ⊥
unfolding answer_of pick
no_always160 h = omega (arith, h (record { 0 = 170 }))

no_refused_length_one : ((p : Pulses) → 1 ≡ (answer_of 5 p).length.0) → ⊥
unfolding answer_of pick
no_refused_length_one h = omega (arith, h (record { 0 = 170 }))

-- "one byte 0 or 1 per 16X pulse"
no_all_high : ((level : Bool) → 1 ≡ bit level) → ⊥
no_all_high h = omega (arith, h false)

-- 5: "a write (or frame request) choosing a setting not modelled"
no_only_both_refused : ((mr1 mr2 : ℕ) → (mr1_not_modelled mr1 && mr2_not_modelled mr2) ≡ not_modelled mr1 mr2) → ⊥
no_only_both_refused h = false≢true (h 128 0)

-- ---- the lent space ----

-- what those below open: it holds no fact
opened_frame : ℕ
unfolding frame frame_length_of bits_before_stop_of frame_bits_of level_of levels spread before_stop parity_bits
opened_frame = 0

opened : ℕ
unfolding opened_frame space_after request_of answer_of first_refusal format_of stop_length_of bits_of value_of pick
opened = 0

abbrev sevens : List ℕ
sevens = replicate 200 7

-- 8 data bits, no parity, one stop bit: 160 levels of the byte 65
abbrev accepted : List ℕ → List ℕ
accepted = space_after 19 7 65

no_writes_no_level : ((s : List ℕ) → s ≡ accepted s) → ⊥
unfolding opened
no_writes_no_level h = omega (arith, ap (λ s. get_or s 0 0) (h sevens))

-- "space past it stays": a level more
no_level_past_frame : 1 ≡ get_or (accepted sevens) 160 0 → ⊥
unfolding opened
no_level_past_frame = omega arith

-- "data lowest bit first": the register's highest bit on the first pulse
no_highest_first : bit (level_of (frame_bits_of (format_of 19) 65) (record { 0 = 15 })) ≡ get_or (accepted sevens) 0 0 → ⊥
unfolding opened
no_highest_first = omega arith

-- the levels of MR1 for those of the byte: bit 1 of 19 is set, of 65 it is not
no_another_byte : get_or (space_after 19 7 19 sevens) 32 0 ≡ get_or (accepted sevens) 32 0 → ⊥
unfolding opened
no_another_byte = omega arith

-- demand 1: "a refused frame request writes nothing into the space it was lent". MR1 bit 7 is set, and this one writes
-- a start bit.
no_refused_writes_level : 0 ≡ get_or (space_after 128 7 65 sevens) 0 0 → ⊥
unfolding opened
no_refused_writes_level = omega arith
