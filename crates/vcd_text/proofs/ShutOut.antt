-- Wrong text, shut out by the definitions: a routine that wrote it would not meet its contract. Assumes nothing.
use Prim.Native.Nat.{ℕ, ◌+◌, ◌*◌, ◌/◌}
use mathlib.Core.Path.{◌≡◌, ap}
use mathlib.Core.Bool.{Bool, true, false}
use mathlib.Core.List.{List, [], ◌∷◌}
use native.Mathlib.Omega.{arith}
use lib.ListN.{length, get_or, replicate}
use Rattle.format.specs.Pick.{pick}
use Rattle.format.specs.Digits.{digit_of}
use Rattle.text.specs.Bytes.{bytes_of}
use Rattle.text.specs.Decimal.{decimal_of}
use Rattle.vcd_text.specs.Time.{time_of}
use Rattle.vcd_text.specs.Header.{line_of, wire_line, wire_lines, wires_from}
use Rattle.vcd_text.specs.Changes.{time_line, value_line, value_lines, at_time, waves_text}
use Rattle.vcd_text.specs.Lines.{line_text}

-- "the whole part of n x 625,000 / 2,304": rounded up, to the nearest, and 271 for each tick
no_times_rounded_up : ((n : ℕ) → (n * 625000 + 2303) / 2304 ≡ time_of n) → ⊥
no_times_rounded_up h = omega (arith, h 1)

no_times_rounded : ((n : ℕ) → (n * 625000 + 1152) / 2304 ≡ time_of n) → ⊥
no_times_rounded h = omega (arith, h 2)

no_271_for_each : ((n : ℕ) → 271 * n ≡ time_of n) → ⊥
no_271_for_each h = omega (arith, h 4)

-- a time has no zeros before it: this one has all twenty places
no_leading_zeros : length (time_line 1) ≡ 22 → ⊥
unfolding line_text decimal_of pick
no_leading_zeros = omega arith

-- "with codes ! to + in that order": this one begins at 0
no_codes_from_zero : wire_lines (wires_from 48 ("TxDA" ∷ [])) ≡ wire_lines (wires_from 33 ("TxDA" ∷ [])) → ⊥
unfolding bytes_of line_of wire_line wire_lines wires_from
no_codes_from_zero h = omega (arith, ap (λ (l : List ℕ). get_or l 12 0) h)

-- "lines such as `1!`": the code before the level, and 0 for a high
no_code_first : (33 ∷ 49 ∷ 10 ∷ [] ≡ value_line 33 true) → ⊥
unfolding line_text digit_of
no_code_first h = omega (arith, ap (λ (l : List ℕ). get_or l 0 0) h)

no_levels_turned : (48 ∷ 33 ∷ 10 ∷ [] ≡ value_line 33 true) → ⊥
unfolding line_text digit_of
no_levels_turned h = omega (arith, ap (λ (l : List ℕ). get_or l 0 0) h)

-- "all values at time 0": only those that are low, or none where all are high
no_highs_missing : value_lines 33 (true ∷ true ∷ []) (true ∷ false ∷ []) ≡ value_lines 33 [] (true ∷ false ∷ []) → ⊥
unfolding value_lines line_text pick
no_highs_missing h = omega (arith, ap length h)

no_time_zero_left_out : length (waves_text 0 [] (replicate 11 true ∷ [])) ≡ 0 → ⊥
unfolding waves_text value_lines line_text at_time decimal_of pick
no_time_zero_left_out = omega arith

-- "then only times with changes": a time that stands alone
no_time_alone : length (waves_text 0 [] (replicate 11 true ∷ replicate 11 true ∷ [])) ≡ 41 → ⊥
unfolding waves_text value_lines line_text at_time decimal_of pick
no_time_alone = omega arith

-- "written where they differ from those written before": all eleven
no_all_again : length (waves_text 0 [] (replicate 11 true ∷ (false ∷ replicate 10 true) ∷ [])) ≡ 74 → ⊥
unfolding waves_text value_lines line_text at_time decimal_of pick
no_all_again = omega arith

-- what differs from time 0 and not from the time before
no_against_the_first : (vs : List Bool) → vs ≡ replicate 11 true
    → length (waves_text 2 (false ∷ replicate 10 true) (vs ∷ [])) ≡ 0 → ⊥
unfolding waves_text value_lines line_text at_time decimal_of pick
no_against_the_first vs e h = omega (arith, rw e at h)
