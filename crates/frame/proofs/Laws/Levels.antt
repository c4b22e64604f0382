-- A frame's length and the level of each of its pulses, once over the width and the clock. Assumes nothing.
use Prim.Native.Nat.{ℕ, zero, suc, ◌+◌, ◌-◌, ◌*◌, ◌/◌, ◌≤◌, ◌<◌}
use mathlib.Core.Path.{◌≡◌, refl, sym, ◌∙◌}
use mathlib.Core.Bool.{Bool, true, false}
use mathlib.Core.List.{List, [], ◌∷◌, ◌++◌, append_assoc}
use native.Mathlib.Omega.{arith}
use native.Mathlib.Decide.{dec_lt}
use native.Mathlib.Numerals.{add-one}
use native.Mathlib.Nat.{div-eq_of_lt, add-div_left, add_comm, mul-suc}
use lib.ListN.{length, take, replicate, get_or, length-append, length-replicate, get_or-replicate, get_or-append}
use lib.Seq.{get_or-append-add, take-append-add}
use Rattle.format.specs.declared.format.Format.{Format}
use Rattle.format.specs.Pick.{pick}
use Rattle.format.specs.Digits.{value_of, cut_of}
use Rattle.format.specs.Format.{format_of}
use Rattle.format.specs.Parity.{data_bits, has_parity_of, parity_bit_of, parity_bits}
use Rattle.format.specs.Stop.{stop_length_of}
use Rattle.frame.specs.Levels.{before_stop, bits_before_stop_of, spread, levels, pulses_per_bit, stop_pulses, frame, frame_length_of}
use Rattle.format.proofs.Laws.Pick.{pick_all}
use Rattle.format.proofs.Laws.Digits.{length_bits, value_bits}
use Rattle.format.proofs.Laws.Format.{width_most}
use Rattle.format.proofs.Laws.Stop.{stop_most, bits_most}

pub before_stop_most : (mr1 : ℕ) → (bits_before_stop_of (format_of mr1)).0 ≤ 10
unfolding bits_before_stop_of
before_stop_most mr1 =
    let w = width_most mr1 in
    pick_all (λ (n : ℕ). n ≤ 10) (has_parity_of (format_of mr1)) _ _ (omega arith) (omega arith)

length_spread : (k : ℕ) (bs : List Bool) → length (spread k bs) ≡ k * length bs
unfolding spread
length_spread k [] = omega arith
length_spread k (b ∷ bs) =
    rw (length-append (replicate k b) (spread k bs), length-replicate k b, length_spread k bs) (add_comm k (k * length bs) ∙ sym (mul-suc k (length bs)))

pub length_levels : (k n : ℕ) (bs : List Bool) → length (levels k n bs) ≡ k * length bs + n
unfolding levels
length_levels k n bs = rw (length-append (spread k bs) (replicate n true), length_spread k bs, length-replicate n true)

take_highs : (n m : ℕ) → n ≤ m → take n (replicate m true) ≡ replicate n true
take_highs zero m h = refl
take_highs (suc n) zero h = absurd (omega arith)
take_highs (suc n) (suc m) h = rw (take_highs n m (omega arith))

-- a stop may be cut short
pub take_levels : (k n m : ℕ) (bs : List Bool) → n ≤ m → take (k * length bs + n) (levels k m bs) ≡ levels k n bs
unfolding levels
take_levels k n m bs h = rw (← length_spread k bs, take-append-add (spread k bs) (replicate m true) n, take_highs n m h)

counted : (t p : Bool) (w : ℕ) → suc (w + length (pick t (p ∷ []) [])) ≡ pick t (w + 2) (w + 1)
unfolding pick
counted true p w = omega arith
counted false p w = omega arith

pub length_before_stop : (f : Format) (x : ℕ) → length (before_stop f x) ≡ (bits_before_stop_of f).0
unfolding before_stop bits_before_stop_of parity_bits
length_before_stop f x =
    rw (length-append (data_bits f x) (parity_bits f x), length_bits f.width.0 x) (counted (has_parity_of f) (parity_bit_of f x) f.width.0)

-- A frame is as long as its format's sum, with either clock.
pub frame_length : (sixteen : Bool) (f : Format) (c x : ℕ) → length (frame sixteen f c x) ≡ (frame_length_of sixteen f c).0
unfolding frame frame_length_of
frame_length sixteen f c x = rw (length_levels, length_before_stop)

-- With a 16X clock that sum is 16 · (1 + data bits + parity bit) + stop.
pub length_sixteen : (f : Format) (c : ℕ) → (frame_length_of true f c).0 ≡ 16 * (1 + f.width.0 + pick (has_parity_of f) 1 0) + (stop_length_of f.width c).0
unfolding frame_length_of bits_before_stop_of pick
length_sixteen f c = go (has_parity_of f)
  where
    go : (t : Bool) → 16 * pick t (f.width.0 + 2) (f.width.0 + 1) + (stop_length_of f.width c).0 ≡ 16 * (1 + f.width.0 + pick t 1 0) + (stop_length_of f.width c).0
    go true = omega arith
    go false = omega arith

-- "at most 192", and 12 with a 1X clock
pub length_most : (sixteen : Bool) (mr1 c : ℕ) → (frame_length_of sixteen (format_of mr1) c).0 ≤ pick sixteen 192 12
unfolding frame_length_of pick
length_most true mr1 c =
    let b = before_stop_most mr1 in
    let s = stop_most (format_of mr1).width c in
    omega arith
length_most false mr1 c =
    let b = before_stop_most mr1 in
    let s = bits_most c in
    omega arith

highs : (n i : ℕ) → get_or (replicate n true) i true ≡ true
highs zero i = refl
highs (suc n) zero = refl
highs (suc n) (suc i) = highs n i

near : (k i : ℕ) (b : Bool) (bs rest : List Bool) → i < k → get_or (replicate k b ++ rest) i true ≡ get_or (b ∷ bs) (i / k) true
near k i b bs rest h =
    let l : i < length (replicate k b) = rw length-replicate h in
    rw (div-eq_of_lt h) (get_or-append (replicate k b) rest true i l ∙ get_or-replicate k i b true h)

far : (k j : ℕ) (b : Bool) (bs rest : List Bool) → 0 < k → get_or rest j true ≡ get_or bs (j / k) true
    → get_or (replicate k b ++ rest) (k + j) true ≡ get_or (b ∷ bs) ((k + j) / k) true
far k j b bs rest z e =
    let past : get_or (replicate k b ++ rest) (k + j) true ≡ get_or rest j true = rw length-replicate at (get_or-append-add (replicate k b) rest j true) in
    past ∙ e ∙ rw (add-div_left j z, add-one)

-- The level of pulse i is bit i / k, and high past the bits.
pub levels_at : (k n i : ℕ) (bs : List Bool) → 0 < k → get_or (levels k n bs) i true ≡ get_or bs (i / k) true
unfolding levels spread
levels_at k n i [] z = highs n i
levels_at k n i (b ∷ bs) z = rw append_assoc (go (dec_lt i k) (levels_at k n (i - k) bs z))
  where
    go : Dec (i < k) → get_or (spread k bs ++ replicate n true) (i - k) true ≡ get_or bs ((i - k) / k) true
        → get_or (replicate k b ++ (spread k bs ++ replicate n true)) i true ≡ get_or (b ∷ bs) (i / k) true
    go (yes h) e = near k i b bs (spread k bs ++ replicate n true) h
    go (no h) e =
        let whole : k + (i - k) ≡ i = omega arith in
        rw whole at (far k (i - k) b bs (spread k bs ++ replicate n true) z e)

one_at_least : (sixteen : Bool) → 0 < pulses_per_bit sixteen
one_at_least sixteen = pick_all (λ (n : ℕ). 0 < n) sixteen 16 1 (omega arith) (omega arith)

-- So is that of a frame, with either clock: bit i / 16, or bit i.
pub frame_at_lem : (sixteen : Bool) (f : Format) (c x i : ℕ) → get_or (frame sixteen f c x) i true ≡ get_or (before_stop f x) (i / pulses_per_bit sixteen) true
unfolding frame
frame_at_lem sixteen f c x i = levels_at (pulses_per_bit sixteen) (stop_pulses sixteen f c) i (before_stop f x) (one_at_least sixteen)

-- A character cut to its data bits is what the data bits make.
pub data_value : (f : Format) (x : ℕ) → value_of (data_bits f x) ≡ cut_of f.width.0 x
data_value f x = value_bits f.width.0 x
