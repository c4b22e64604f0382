-- What samples can be: of at most eight data bits, nine in all, and below the power of two of their number; and what those of a frame
-- make, by the number of its bits: data below the power of two of the width, the parity bit above. Assumes nothing.
use Prim.Native.Nat.{ℕ, ◌+◌, ◌*◌, ◌/◌, ◌%◌, ◌^◌, ◌≤◌, ◌<◌}
use mathlib.Core.Path.{◌≡◌, refl, ◌∙◌}
use mathlib.Core.Bool.{Bool, true, false, not}
use mathlib.Core.List.{[], ◌∷◌, ◌++◌}
use native.Mathlib.Omega.{arith}
use native.Mathlib.Numerals.{add-one}
use native.Mathlib.Nat.{mod-lt, mod-eq_of_lt, div-eq_of_lt, add-mul-mod_self_left, add-mul-div_left, one-le-pow, two-pow-succ, lt_of_lt_of_le, zero-mul, one-mul, zero-add, add-zero}
use lib.Dec.{eqb, ltb}
use lib.ListN.{length, length-append}
use lib.Pow.{pow_mono}
use borrow.Author.Tests.{ltb-true, ltb-false}
use Rattle.format.specs.declared.counts.Bits.{Bits}
use Rattle.format.specs.declared.format.Format.{Format}
use Rattle.format.specs.Pick.{pick}
use Rattle.format.specs.Digits.{bit, value_of, cut_of}
use Rattle.format.specs.Parity.{data_bits, has_parity_of, parity_bit_of, parity_bits}
use Rattle.format.proofs.Laws.Pick.{pick_all}
use Rattle.format.proofs.Laws.Digits.{length_bits, value_bits, bits_cut, value_append}
use Rattle.character.specs.Character.{clean}
use Rattle.sampler_state.specs.Assembly.{data_width_of, samples_of, with_sample, data_of, parity_wrong_of, character_of}

least : (w : Bits) (t : Bool) → ltb w.0 8 ≡ t → (pick t w (record { 0 = 8 })).0 ≤ 8
unfolding pick
least w true e = let l = ltb-true w.0 8 e in omega arith
least w false e = omega arith

pub width_eight : (f : Format) → (data_width_of f).0 ≤ 8
unfolding data_width_of
width_eight f = least f.width (ltb f.width.0 8) refl

-- a width that MR1 can choose is the one sampled
whole : (w : Bits) (t : Bool) → ltb w.0 8 ≡ t → w.0 ≤ 8 → (pick t w (record { 0 = 8 })).0 ≡ w.0
unfolding pick
whole w true e h = refl
whole w false e h = let l = ltb-false w.0 8 e in omega arith

pub width_whole : (f : Format) → f.width.0 ≤ 8 → (data_width_of f).0 ≡ f.width.0
unfolding data_width_of
width_whole f h = whole f.width (ltb f.width.0 8) refl h

pub samples_most : (f : Format) → (samples_of f).0 ≤ 9
unfolding samples_of
samples_most f =
    let w = width_eight f in
    pick_all (λ (n : Bits). n.0 ≤ 9) (has_parity_of f) _ _ (omega arith) (omega arith)

counted : (t p : Bool) (w : Bits) → (pick t (record { 0 = w.0 + 1 }) w).0 ≡ w.0 + length (pick t (p ∷ []) [])
unfolding pick
counted true p w = refl
counted false p w = omega arith

-- as many samples as a frame has bits between start and stop
pub samples_are : (f : Format) (x : ℕ) → f.width.0 ≤ 8 → (samples_of f).0 ≡ length (data_bits f x ++ parity_bits f x)
unfolding samples_of parity_bits
samples_are f x h =
    counted (has_parity_of f) (parity_bit_of f x) (data_width_of f)
    ∙ rw (width_whole f h, length-append (data_bits f x) (parity_bits f x), length_bits f.width.0 x)

-- "Unused data bits are 0."
pub data_small : (f : Format) (v : ℕ) → data_of f v < 256
data_small f v = lt_of_lt_of_le (mod-lt v (one-le-pow (data_width_of f).0 2 (omega arith))) (pow_mono (width_eight f))

-- the samples with one more above the `k` that are taken
pub with_sample_small : (v k : ℕ) (b : Bool) → with_sample v k b < 2 ^ (k + 1)
unfolding with_sample
with_sample_small v k b =
    let m : v % 2 ^ k < 2 ^ k = mod-lt v (one-le-pow k 2 (omega arith)) in
    rw (add-one k, two-pow-succ k) (pick_all (λ (n : ℕ). n < 2 ^ k + 2 ^ k) b _ _ (omega arith) (omega arith))

pub with_sample_adds : (v k : ℕ) (b : Bool) → v < 2 ^ k → with_sample v k b ≡ v + bit b * 2 ^ k
unfolding with_sample pick
with_sample_adds v k true h = rw (mod-eq_of_lt h, one-mul)
with_sample_adds v k false h = rw (mod-eq_of_lt h, zero-mul, add-zero)

-- the parity bit is that of the data bits alone
parity_cut : (f : Format) (x : ℕ) → parity_bit_of f (cut_of f.width.0 x) ≡ parity_bit_of f x
unfolding parity_bit_of
parity_cut f x = rw (bits_cut f.width.0 x)

agrees : (t p : Bool) → pick t (pick (eqb (value_of (pick t (p ∷ []) []) % 2) 1) (not p) p) false ≡ false
unfolding pick value_of
agrees true true = refl
agrees true false = refl
agrees false p = refl

-- a parity bit that is sent as it is computed is not found wrong
right : (f : Format) (x : ℕ) → pick (has_parity_of f) (pick (eqb (value_of (parity_bits f x) % 2) 1) (not (parity_bit_of f x)) (parity_bit_of f x)) false ≡ false
unfolding parity_bits
right f x = agrees (has_parity_of f) (parity_bit_of f x)

-- What a frame's bits before the stop make, sampled one by one: the character cut to its data bits, without an error mark.
pub sampled_clean : (f : Format) (x : ℕ) → f.width.0 ≤ 8 → character_of f (value_of (data_bits f x ++ parity_bits f x)) true ≡ clean (cut_of f.width.0 x)
unfolding character_of parity_wrong_of
sampled_clean f x h =
    let w : ℕ = f.width.0 in
    let d : ℕ = cut_of w x in
    let y : ℕ = value_of (parity_bits f x) in
    let small : d < 2 ^ w = mod-lt x (one-le-pow w 2 (omega arith)) in
    let v : value_of (data_bits f x ++ parity_bits f x) ≡ d + 2 ^ w * y = rw (value_append (data_bits f x) (parity_bits f x), value_bits w x, length_bits w x) in
    let low : (d + 2 ^ w * y) % 2 ^ w ≡ d = add-mul-mod_self_left d (2 ^ w) y ∙ mod-eq_of_lt small in
    let high : (d + 2 ^ w * y) / 2 ^ w ≡ y = add-mul-div_left d y (one-le-pow w 2 (omega arith)) ∙ rw (div-eq_of_lt small) (zero-add y) in
    rw (v, width_whole f h, low, high, parity_cut f x, right f x)
