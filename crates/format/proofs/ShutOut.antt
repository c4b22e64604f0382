-- Wrong answers, each shut out by a definition: a routine that gave it would not meet its contract. Assumes nothing.
use Prim.Native.Nat.{ℕ, ◌+◌, ◌/◌, ◌%◌, ◌<◌}
use mathlib.Core.Path.{◌≡◌, refl, ap}
use mathlib.Core.Bool.{Bool, true, false, not, ◌||◌, true≢false, false≢true}
use mathlib.Core.List.{List, [], ◌∷◌}
use native.Mathlib.Omega.{arith}
use lib.Dec.{eqb, ltb}
use lib.ListN.{length, get_or}
use Rattle.format.specs.declared.counts.Bits.{Bits}
use Rattle.format.specs.declared.format.Format.{Format}
use Rattle.format.specs.Pick.{pick}
use Rattle.format.specs.Digits.{bits_of, odd_ones, cut_of}
use Rattle.format.specs.Format.{mr1_not_modelled, mr2_not_modelled, format_of, stop_code_of}
use Rattle.format.specs.Parity.{data_bits, has_parity_of, parity_bit_of, parity_bits}
use Rattle.format.specs.Stop.{stop_length_of, stop_bits_of}
use Rattle.format.proofs.Laws.Numbers.{Modelled, Widths, ParityBits, Stops}

abbrev format_with : ℕ → ℕ → Bool → Format
format_with width parity odd = record { width = record { 0 = width }; parity = parity; odd = odd }

-- "4-3 parity 00 with, 01 forced, 10 none"
no_parity_from54 : ((mr1 : ℕ) → mr1 / 16 % 4 ≡ (format_of mr1).parity) → ⊥
unfolding format_of
no_parity_from54 h = omega (arith, h 8)

-- "1-0 data bits less 5"
no_six_for_five : ((mr1 : ℕ) → mr1 % 4 + 6 ≡ (format_of mr1).width.0) → ⊥
unfolding format_of
no_six_for_five h = omega (arith, h 0)

-- "Not modelled (5): MR1 bit 7 set or bits 4-3 = 11": this one refuses 10, no parity
no_no_parity_refused : ((mr1 : ℕ) → (eqb (mr1 / 128 % 2) 1 || eqb (mr1 / 8 % 4) 2) ≡ mr1_not_modelled mr1) → ⊥
no_no_parity_refused h = true≢false (h 16)

-- "MR2 .. bit 5 set": this one refuses bit 4, CTS, too
no_cts_refused : ((mr2 : ℕ) → (eqb (mr2 / 32 % 2) 1 || eqb (mr2 / 16 % 2) 1) ≡ mr2_not_modelled mr2) → ⊥
no_cts_refused h = true≢false (h 16)

-- "3-0 stop code c"
no_code_from_above : ((mr2 : ℕ) → mr2 / 16 ≡ stop_code_of mr2) → ⊥
no_code_from_above h = omega (arith, h 7)

-- eight data bits are the whole byte
no_whole_byte_lost : ((x : ℕ) → 0 ≡ cut_of 8 x) → ⊥
no_whole_byte_lost h = omega (arith, h 1)

no_none_has_parity : ((f : Format) → ltb f.parity 3 ≡ has_parity_of f) → ⊥
no_none_has_parity h = true≢false (h (format_with 8 2 false))

-- "65, 7 bits: even parity bit 0, odd 1"
no_odd_is_even : ((x : ℕ) → odd_ones (data_bits (format_with 7 0 true) x) ≡ parity_bit_of (format_with 7 0 true) x) → ⊥
unfolding parity_bit_of odd_ones bits_of pick
no_odd_is_even h = false≢true (h 65)

no_parity_over_eight : ((f : Format) (x : ℕ) → odd_ones (bits_of 8 x) ≡ odd_ones (data_bits f x)) → ⊥
unfolding odd_ones bits_of
no_parity_over_eight h = true≢false (h (format_with 5 0 false) 32)

-- "With a 1X clock: one bit, two if bit 3 is set."
no_two_bits_by_bit2 : ((c : ℕ) → pick (eqb (c / 4 % 2) 1) 2 1 ≡ (stop_bits_of c).0) → ⊥
unfolding stop_bits_of pick
no_two_bits_by_bit2 h = omega (arith, h 4)

-- "for 6 to 8, 9+c for c up to 7"
no_one_pulse_too_many : ((c : ℕ) → c < 8 → c + 10 ≡ (stop_length_of (record { 0 = 8 }) c).0) → ⊥
unfolding stop_length_of pick
no_one_pulse_too_many h = omega (arith, h 0 (omega arith))

-- "for 5 data bits 17+c; for 6 to 8, 9+c": the lengths of the other widths
no_other_widths :
    ((w : Bits) (c : ℕ) → c < 8 → pick (eqb w.0 5) (c + 9) (c + 17) ≡ (stop_length_of w c).0) → ⊥
unfolding stop_length_of pick
no_other_widths h = omega (arith, h (record { 0 = 5 }) 0 (omega arith))

-- ---- wrong definitions, each shut out by document 01's numbers ----
-- Made in the definition and in the code together, they would still be refused.

-- the right ones, of MR1 and MR2
abbrev there_for : ℕ → Bool
there_for mr1 = has_parity_of (format_of mr1)

abbrev bits_for : ℕ → ℕ → List Bool
bits_for mr1 x = parity_bits (format_of mr1) x

abbrev sixteenths : ℕ → ℕ → ℕ
sixteenths mr1 mr2 = (stop_length_of (format_of mr1).width (stop_code_of mr2)).0

abbrev whole : ℕ → ℕ
whole mr2 = (stop_bits_of (stop_code_of mr2)).0

-- "4-3 parity 00 with, 01 forced, 10 none": forced parity without a parity bit, counted or sent
no_forced_not_there : ParityBits (λ (mr1 : ℕ). eqb (mr1 / 8 % 4) 0) bits_for → ⊥
no_forced_not_there h = false≢true (h.forced_there 8 refl)

no_forced_not_sent :
    ParityBits there_for (λ (mr1 x : ℕ). pick (eqb (mr1 / 8 % 4) 0) (parity_bit_of (format_of mr1) x ∷ []) []) → ⊥
unfolding pick
no_forced_not_sent h = omega (arith, ap length (h.forced_low 8 0 refl refl))

-- "10 none": a parity bit where there is none
no_none_sent : ParityBits there_for (λ (mr1 x : ℕ). parity_bit_of (format_of mr1) x ∷ []) → ⊥
no_none_sent h = omega (arith, ap length (h.none 16 0 refl))

-- "2 odd, or forced high": forced as its complement
no_forced_complemented :
    ParityBits there_for (λ (mr1 x : ℕ). pick (eqb (mr1 / 8 % 4) 1) (eqb (mr1 / 4 % 2) 0 ∷ []) (bits_for mr1 x)) → ⊥
unfolding pick
no_forced_complemented h = true≢false (ap (λ (l : List Bool). get_or l 0 false) (h.forced_low 8 0 refl refl))

-- order 2: "5 no longer covers MR2 bits 7-6.": remote loopback refused, and all modes but 00, as before the order
no_remote_refused : Modelled mr1_not_modelled (λ (mr2 : ℕ). eqb (mr2 / 64 % 4) 3 || eqb (mr2 / 32 % 2) 1) → ⊥
no_remote_refused h = omega (arith, ap length h.second)

no_modes_refused : Modelled mr1_not_modelled (λ (mr2 : ℕ). not (eqb (mr2 / 64 % 4) 0) || eqb (mr2 / 32 % 2) 1) → ⊥
no_modes_refused h = omega (arith, ap length h.second)

-- "MR2 .. bit 5 set": let through
no_mr2_bit5_accepted : Modelled mr1_not_modelled (λ (mr2 : ℕ). false) → ⊥
no_mr2_bit5_accepted h = omega (arith, ap length h.second)

-- "MR1 bit 7 set or bits 4-3 = 11": 10 refused, no parity
no_mr1_none_refused : Modelled (λ (mr1 : ℕ). eqb (mr1 / 128 % 2) 1 || eqb (mr1 / 16 % 2) 1) mr2_not_modelled → ⊥
no_mr1_none_refused h = omega (arith, ap length h.first)

-- "1-0 data bits less 5": 8 data bits always
no_always_eight : Widths (λ (mr1 : ℕ). 8) → ⊥
no_always_eight h = omega (arith, h.five 0 refl)

-- "With a 1X clock: one bit, two if bit 3 is set.": always one
no_always_one_stop_bit : Stops sixteenths (λ (mr2 : ℕ). 1) → ⊥
no_always_one_stop_bit h = omega (arith, ap (λ (l : List ℕ). get_or l 8 0) h.once)

-- "for 6 to 8, 9+c for c up to 7, else 17+c": 9+c for every c
no_nine_for_all : Stops (λ (mr1 mr2 : ℕ). pick (eqb (mr1 % 4) 0) (mr2 % 16 + 17) (mr2 % 16 + 9)) whole → ⊥
unfolding pick
no_nine_for_all h = omega (arith, ap (λ (l : List ℕ). get_or l 8 0) (h.more 3 2 refl))

-- order 2: "5 no longer covers MR2 bits 7-6.", and they are the mode's: taken for a part of the stop code
no_mode_in_stop : Stops sixteenths (λ (mr2 : ℕ). mr2 / 64 % 4 + (stop_bits_of (stop_code_of mr2)).0) → ⊥
unfolding stop_bits_of pick
no_mode_in_stop h = omega (arith, (h.modes 0 64).1)
