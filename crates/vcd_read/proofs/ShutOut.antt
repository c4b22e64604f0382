-- Wrong answers, shut out by the definitions: a reader that gave them would not meet its contract. Assumes nothing.
use Prim.Native.Nat.{ℕ}
use Prim.Native.String.{String}
use mathlib.Core.Path.{◌≡◌, sym, ◌∙◌, ap}
use mathlib.Core.List.{List, [], ◌∷◌, ◌++◌}
use native.Mathlib.Omega.{arith}
use Rattle.std.specs.Prelude.{Some, Result}
use Rattle.text.specs.Bytes.{bytes_of}
use Rattle.refusal.specs.declared.refusal.Refusal.{Refusal}
use Rattle.vcd_read.specs.declared.scanning.Scanned.{Scanned}
use Rattle.vcd_read.specs.Scan.{scan_of, scan_number, found_in}
use Rattle.vcd_read.proofs.Computing.{reading, lines, around, two_wires, dump}

-- what is found of a text that names the wires RxDA and RxDB
abbrev of : List ℕ → Result Scanned Refusal
of text = scan_of text (bytes_of "RxDA") (bytes_of "RxDB")

abbrev found : List String → Result Scanned Refusal
found body = of (dump body)

-- ---- the header ----

-- "each once": a code, or a name, that is let through twice
no_code_twice : 0 ≡ scan_number (of (around (two_wires ++ lines ("$var wire 1 ! x $end" ∷ [])))) → ⊥
unfolding reading
no_code_twice = omega arith

no_name_twice : 0 ≡ scan_number (of (around (two_wires ++ lines ("$var wire 1 ~ RxDB $end" ∷ [])))) → ⊥
unfolding reading
no_name_twice = omega arith

-- "a named wire missing": this one takes the first wire for it
no_missing_is_first : 33 ≡ (found_in (scan_of (dump []) (bytes_of "RxDC") (bytes_of "RxDB"))).code_a → ⊥
unfolding reading
no_missing_is_first = omega arith

-- "the caller names the two wires": these go by the order of the header, or take one wire for both
no_by_place : 33 ≡ (found_in (scan_of (dump []) (bytes_of "RxDB") (bytes_of "RxDA"))).code_a → ⊥
unfolding reading
no_by_place = omega arith

no_one_for_both : ((text a b : List ℕ) → (found_in (scan_of text a b)).code_a ≡ (found_in (scan_of text a b)).code_b) → ⊥
unfolding reading
no_one_for_both h = omega (arith, h (dump []) (bytes_of "RxDA") (bytes_of "RxDB"))

-- ---- the times ----

-- "no leading zeros"
no_leading_zero : 0 ≡ scan_number (found ("#01" ∷ [])) → ⊥
unfolding reading
no_leading_zero = omega arith

-- "times up to 4,000,000,000 ns", which is inside
no_one_over : 0 ≡ scan_number (found ("#4000000001" ∷ [])) → ⊥
unfolding reading
no_one_over = omega arith

no_limit_refused : 10 ≡ scan_number (found ("#4000000000" ∷ [])) → ⊥
unfolding reading
no_limit_refused = omega arith

-- 2^32 + 5, and twenty digits, 2^64 + 5: a count that wraps has them at 5
no_wraps32 : Some 5 ≡ (found_in (found ("#4294967301" ∷ []))).times.last → ⊥
unfolding reading
no_wraps32 h = cc

no_wraps64 : Some 5 ≡ (found_in (found ("#18446744073709551621" ∷ []))).times.last → ⊥
unfolding reading
no_wraps64 h = cc

no_twenty_digits : 0 ≡ scan_number (found ("#18446744073709551621" ∷ [])) → ⊥
unfolding reading
no_twenty_digits = omega arith

-- "11 a time not later than the one before": an equal one let through, and one that a later time makes good
no_same_time : 0 ≡ scan_number (found ("#5" ∷ "#5" ∷ [])) → ⊥
unfolding reading
no_same_time = omega arith

no_late_forgotten : 0 ≡ scan_number (found ("#5" ∷ "#4" ∷ "#6" ∷ [])) → ⊥
unfolding reading
no_late_forgotten = omega arith

-- time 0 has none before it
no_zero_late : 11 ≡ scan_number (found ("#0" ∷ [])) → ⊥
unfolding reading
no_zero_late = omega arith

-- "Refusals, in this order: .. 10 .., 11 .."
no_eleven_first : 11 ≡ scan_number (found ("#5" ∷ "#5" ∷ "x" ∷ [])) → ⊥
unfolding reading
no_eleven_first = omega arith

-- a text with no time is inside
no_time_needed : 10 ≡ scan_number (found []) → ⊥
unfolding reading
no_time_needed = omega arith

-- ---- the values ----

-- a value line before the first time
no_value_first : 0 ≡ scan_number (found ("1!" ∷ "#0" ∷ [])) → ⊥
unfolding reading
no_value_first = omega arith

-- a code that no wire has
no_other_code : 0 ≡ scan_number (found ("#0" ∷ "1~" ∷ [])) → ⊥
unfolding reading
no_other_code = omega arith

-- `x` for a level that is not known
no_unknown_level : 0 ≡ scan_number (found ("#0" ∷ "x!" ∷ [])) → ⊥
unfolding reading
no_unknown_level = omega arith

-- a text without its last LF
no_line_open : 0 ≡ scan_number (of (dump ("#0" ∷ []) ++ bytes_of "1!")) → ⊥
unfolding reading
no_line_open = omega arith

no_time_open : 0 ≡ scan_number (of (dump [] ++ bytes_of "#0")) → ⊥
unfolding reading
no_time_open = omega arith

-- ---- whole readers ----

-- one that has the same answer for every text, refuses all, or refuses none
no_constant : (s : Result Scanned Refusal) → ((text a b : List ℕ) → s ≡ scan_of text a b) → ⊥
unfolding reading
no_constant s h =
    let none = h [] [] [] in
    let some = h (dump []) (bytes_of "RxDA") (bytes_of "RxDB") in
    omega (arith, ap scan_number (sym none ∙ some))

no_all_refused : ((text a b : List ℕ) → 10 ≡ scan_number (scan_of text a b)) → ⊥
unfolding reading
no_all_refused h = omega (arith, h (dump []) (bytes_of "RxDA") (bytes_of "RxDB"))

no_none_refused : ((text a b : List ℕ) → 0 ≡ scan_number (scan_of text a b)) → ⊥
unfolding reading
no_none_refused h = omega (arith, h [] [] [])

-- one that stops at the first line after the header
no_first_line_alone : (found_in (found ("#0" ∷ []))).times.last ≡ (found_in (found ("#0" ∷ "#271" ∷ []))).times.last → ⊥
unfolding reading
no_first_line_alone h = let e : ◌≡◌ {A = ℕ} 0 271 = cc in omega arith
