-- Wrong answers and logs, shut out by the definitions: a routine that gave them would not meet its contract. The texts
-- are those of Computing.antt: RxDA has a 21, RxDB a 10. Assumes nothing.
use Prim.Native.Nat.{ℕ, ◌+◌, ◌*◌, ◌/◌}
use Prim.Native.String.{String}
use mathlib.Core.Path.{◌≡◌, refl, sym, ◌∙◌, ap}
use mathlib.Core.Bool.{Bool, true, false}
use mathlib.Core.List.{List, [], ◌∷◌, ◌++◌}
use native.Mathlib.Omega.{arith}
use lib.ListN.{length, take, get_or}
use Rattle.std.specs.Prelude.{Some}
use Rattle.vcd_read.specs.declared.checking.Times.{Times}
use Rattle.vcd_capture.specs.declared.capturing.Asked.{Asked}
use Rattle.vcd_capture.specs.Logs.{marks_byte}
use Rattle.vcd_capture.specs.Ear.{ticks_before, pulses_before}
use Rattle.vcd_capture.specs.Capture.{end_of, log_a, number_of, log_after, handed_of}
use Rattle.vcd_capture.proofs.Computing.{capturing, fast, bits, both, twice, text_of, wire_a, wire_b}
use Rattle.vcd_capture.proofs.Computing.{late, handed, number, filled}

-- ---- the levels ----

-- "Tick n samples the level at order 6's time": one tick late, the low at the stop's very time is not seen; one early,
-- a low after it is
no_one_tick_late : 0 ≡ get_or (handed fast (both ++ "0!" ∷ []) false) 1 0 → ⊥
unfolding capturing
no_one_tick_late = omega arith

no_late_with_no_rest : 28 ≡ get_or (handed fast ("#12000" ∷ "0!" ∷ "#78125" ∷ "1!" ∷ "#182291" ∷ []) false) 0 0 → ⊥
unfolding capturing
no_late_with_no_rest = omega arith

no_one_tick_early : 64 ≡ get_or (handed fast (bits ++ "#172527" ∷ "0!" ∷ []) false) 1 0 → ⊥
unfolding capturing
no_one_tick_early = omega arith

-- the ticks up to a time for those before it, and those of a time that is rounded up
no_tick_at_time : ((t : ℕ) → t * 2304 / 625000 ≡ ticks_before t) → ⊥
unfolding capturing
no_tick_at_time h = omega (arith, h 4000000000)

no_rounded_up : ((t : ℕ) → (t * 2304 + 624999) / 625000 ≡ ticks_before t) → ⊥
unfolding capturing
no_rounded_up h = omega (arith, h 1)

-- "up to the last time": this one leaves it out
no_last_time_left_out : ((t : Times) (last : ℕ) → t.last ≡ Some last → last ≡ end_of t) → ⊥
unfolding capturing
no_last_time_left_out h = omega (arith, h (record { last = Some 271; late = false }) 271 refl)

no_stop_left_out : 0 ≡ length (handed fast both false) → ⊥
unfolding capturing
no_stop_left_out = omega arith

-- "phase 0": these have the first pulse at time 0, and on the first tick
no_pulse_at_zero : ((period t : ℕ) → ticks_before t / period + 1 ≡ pulses_before period t) → ⊥
unfolding capturing
no_pulse_at_zero h = omega (arith, h 6 1)

no_pulse_on_first_tick : 2 ≡ length (handed fast ("#1627" ∷ "0!" ∷ "#172526" ∷ []) false) → ⊥
unfolding capturing
no_pulse_on_first_tick = omega arith

-- "just enabled": a line low from the start that is read as a character
no_low_from_start : 2 ≡ length (handed fast ("#0" ∷ "0!" ∷ "#172526" ∷ []) false) → ⊥
unfolding capturing
no_low_from_start = omega arith

-- "high before their first value": this one takes it for low, and sees no high before the start bit
no_low_before : 0 ≡ length (handed fast ("#1628" ∷ "0!" ∷ "#172526" ∷ []) false) → ⊥
unfolding capturing
no_low_before = omega arith

-- the values of the other wire, or of each
no_other_wire : 64 ≡ get_or (handed fast (both ++ "0\"" ∷ []) false) 1 0 → ⊥
unfolding capturing
no_other_wire = omega arith

-- ---- the logs ----

-- "marks as SR 7-5": in the three low bits; framing and parity exchanged
no_low_bits : 4 ≡ marks_byte (record { broken = true; framing = false; parity = false }) → ⊥
unfolding capturing
no_low_bits = omega arith

no_framing_for_parity : 32 ≡ marks_byte (record { broken = false; framing = true; parity = false }) → ⊥
unfolding capturing
no_framing_for_parity = omega arith

-- "two bytes a character (data, marks ..)": the marks first, and data alone
no_marks_first : 0 ≡ get_or (handed fast both false) 0 0 → ⊥
unfolding capturing
no_marks_first = omega arith

no_data_alone : 1 ≡ length (handed fast both false) → ⊥
unfolding capturing
no_data_alone = omega arith

-- a log, given the other's room
abbrev a_after : List String → ℕ → List ℕ → List ℕ
a_after body room_b log =
    log_after (number_of fast (text_of body) wire_a wire_b (length log) room_b)
    (log_a fast (text_of body) wire_a wire_b) log

-- "8 either log too short .. both logs stay": one byte short, and written; the other one short, and this one written
no_short_log_written : 21 ≡ get_or (a_after both 2 (7 ∷ [])) 0 0 → ⊥
unfolding capturing
no_short_log_written = omega arith

no_written_beside_short : 21 ≡ get_or (a_after both 1 (7 ∷ 7 ∷ [])) 0 0 → ⊥
unfolding capturing
no_written_beside_short = omega arith

-- an odd byte is not used: for the data of a second character, or cleared
no_odd_byte_used : 0 ≡ number fast twice 3 2 → ⊥
unfolding capturing
no_odd_byte_used = omega arith

no_odd_byte_cleared : 0 ≡ get_or (a_after both 2 (7 ∷ 7 ∷ 7 ∷ [])) 2 0 → ⊥
unfolding capturing
no_odd_byte_cleared = omega arith

-- exact room is enough
no_exact_refused : 8 ≡ number fast both 2 2 → ⊥
unfolding capturing
no_exact_refused = omega arith

-- only the named channel's log is asked, or filled
no_named_alone : 0 ≡ number fast both 2 1 → ⊥
unfolding capturing
no_named_alone = omega arith

-- a routine that writes nothing
no_nothing_written : 7 ≡ get_or (a_after both 2 (7 ∷ 7 ∷ [])) 0 0 → ⊥
unfolding capturing
no_nothing_written = omega arith

-- ---- the answer ----

-- "Refusals, in this order: 5 .., 10 .., 11 .., 8"
no_eight_first : 8 ≡ number fast late 0 0 → ⊥
unfolding capturing
no_eight_first = omega arith

no_eleven_before_ten : 11 ≡ number fast (late ++ "x" ∷ []) 0 0 → ⊥
unfolding capturing
no_eleven_before_ten = omega arith

no_five_last : 10 ≡ number (record { mr1 = 16; acr7 = false; code = 13 }) ("x" ∷ []) 0 0 → ⊥
unfolding capturing
no_five_last = omega arith

-- "CSR code 0 to 12", "5 (a code above 12 too)"
no_twelve_refused : 5 ≡ number fast [] 0 0 → ⊥
unfolding capturing
no_twelve_refused = omega arith

no_thirteen_taken : 0 ≡ number (record { mr1 = 16; acr7 = false; code = 13 }) [] 0 0 → ⊥
unfolding capturing
no_thirteen_taken = omega arith

-- the length of the log's room, and of a refused call
no_room_for_length : 100 ≡ (filled fast both 100 100).length_a → ⊥
unfolding capturing
no_room_for_length = omega arith

no_refused_length : 2 ≡ (filled fast both 2 1).length_a → ⊥
unfolding capturing
no_refused_length = omega arith

-- ---- the part that is handed ----

-- "the filled part of that channel's log": the other channel's, A's for both, and what a refused call would have had
no_other_channel : 10 ≡ get_or (handed fast both false) 0 0 → ⊥
unfolding capturing
no_other_channel = omega arith

no_first_for_both : ((q : Asked) (body : List String) → handed q body false ≡ handed q body true) → ⊥
unfolding capturing
no_first_for_both h = omega (arith, ap (λ (l : List ℕ). get_or l 0 0) (h fast both))

no_refused_handed : 2 ≡ length (handed_of fast (text_of both) wire_a wire_b 2 1 false) → ⊥
unfolding capturing
no_refused_handed = omega arith

-- one that hands the same for all, refuses all, or hands the first character alone
no_constant : (l : List ℕ) → ((q : Asked) (body : List String) (channel_b : Bool) → l ≡ handed q body channel_b) → ⊥
unfolding capturing
no_constant l h = omega (arith, ap (λ (x : List ℕ). get_or x 0 0) (sym (h fast both false) ∙ h fast both true))

no_all_refused : (n : ℕ)
    → ((q : Asked) (body : List String) (room_a room_b : ℕ) → n + 1 ≡ number q body room_a room_b) → ⊥
unfolding capturing
no_all_refused n h = omega (arith, h fast both 2 2)

no_first_alone : ((q : Asked) (body : List String) → take 2 (handed q body false) ≡ handed q body false) → ⊥
unfolding capturing
no_first_alone h = omega (arith, ap length (h fast twice))
