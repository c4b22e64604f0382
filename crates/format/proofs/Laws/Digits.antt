-- Bits of numbers: how many, which number they make, which is which. Each by induction on the width or on the list. Assumes nothing.
use Prim.Native.Nat.{ℕ, zero, suc, ◌+◌, ◌*◌, ◌/◌, ◌%◌, ◌^◌, ◌≤◌, ◌<◌}
use mathlib.Core.Path.{◌≡◌, refl, ap, ◌∙◌}
use mathlib.Core.Bool.{Bool, true, false, not}
use mathlib.Core.List.{List, [], ◌∷◌, ◌++◌}
use native.Mathlib.Omega.{arith}
use native.Mathlib.Numerals.{add-one, one-add}
use native.Mathlib.Nat.{pow-succ', mod-lt, mod-eq_of_lt, one-le-pow, zero-add, zero-div, one-mul, mod-le, lt_of_lt_of_le, lt_of_le_of_lt}
use lib.Count.{ones, ones_step}
use lib.Dec.{eqb}
use lib.ListN.{length, get_or, replicate}
use lib.Pow.{mod-pow-add, mod-mod-pow, field, shr-shr, shl_exact, pow_mono}
use Rattle.format.specs.Digits.{bit, bits_of, value_of, odd_ones}

pub length_bits : (w x : ℕ) → length (bits_of w x) ≡ w
unfolding bits_of
length_bits zero x = refl
length_bits (suc w) x = rw (length_bits w (x / 2))

bit_of : (r : ℕ) → r < 2 → bit (eqb r 1) ≡ r
bit_of zero h = refl
bit_of (suc zero) h = refl
bit_of (suc (suc r)) h = absurd (omega arith)

-- a power of two in a word of `k` bits
pub power : (k w : ℕ) → w < k → 1 * 2 ^ w % 2 ^ k ≡ 2 ^ w
power k w h = shl_exact 1 w k (omega arith) (omega arith) ∙ one-mul (2 ^ w)

pub cut_whole : (v w x : ℕ) → x < 2 ^ v → v ≤ w → x % 2 ^ w ≡ x
cut_whole v w x h l = mod-eq_of_lt (lt_of_lt_of_le h (pow_mono l))

pub cut_small : (v w x : ℕ) → x < 2 ^ v → x % 2 ^ w < 2 ^ v
cut_small v w x h = lt_of_le_of_lt (mod-le x (2 ^ w)) h

-- the lowest bits of a number make the number cut to them
pub value_bits : (w x : ℕ) → value_of (bits_of w x) ≡ x % 2 ^ w
unfolding bits_of value_of
value_bits zero x = omega arith
value_bits (suc w) x =
    let whole : x % 2 ^ (w + 1) ≡ (x / 2 % 2 ^ w) * 2 + x % 2 = mod-pow-add x w 1 in
    rw (bit_of (x % 2) (omega arith), value_bits w (x / 2), ← add-one w, whole) (omega arith)

-- and the bits above them are not looked at
pub bits_cut : (w x : ℕ) → bits_of w (x % 2 ^ w) ≡ bits_of w x
unfolding bits_of
bits_cut zero x = refl
bits_cut (suc w) x =
    let low : x % 2 ^ (w + 1) % 2 ≡ x % 2 = mod-mod-pow x w 1 in
    let above : x % 2 ^ (w + 1) / 2 ≡ x / 2 % 2 ^ w = field x w 1 in
    rw (← add-one w, low, above, bits_cut w (x / 2))

pub value_append : (a b : List Bool) → value_of (a ++ b) ≡ value_of a + 2 ^ length a * value_of b
unfolding value_of
value_append [] b = omega arith
value_append (x ∷ a) b = rw (value_append a b, pow-succ' 2 (length a)) (omega arith)

pub value_highs : (n : ℕ) → value_of (replicate n true) + 1 ≡ 2 ^ n
unfolding value_of
value_highs zero = refl
value_highs (suc n) = let h = value_highs n in rw (pow-succ' 2 n) (omega arith)

lowest : (b : Bool) (v : ℕ) → b ≡ eqb ((bit b + 2 * v) % 2) 1
lowest true v = let e : (1 + 2 * v) % 2 ≡ 1 = omega arith in rw e
lowest false v = let e : (0 + 2 * v) % 2 ≡ 0 = omega arith in rw e

pub bit_small : (b : Bool) → bit b < 2
bit_small true = omega arith
bit_small false = omega arith

-- a bit of the number that bits make is that bit
pub value_at : (bs : List Bool) (i : ℕ) → get_or bs i false ≡ eqb (value_of bs / 2 ^ i % 2) 1
unfolding value_of
value_at [] i = rw (zero-div (2 ^ i))
value_at (b ∷ bs) zero = lowest b (value_of bs) ∙ (let e : (bit b + 2 * value_of bs) / 1 ≡ bit b + 2 * value_of bs = omega arith in rw e)
value_at (b ∷ bs) (suc i) =
    let small = bit_small b in
    let half : (bit b + 2 * value_of bs) / 2 ≡ value_of bs = omega arith in
    let down : (bit b + 2 * value_of bs) / 2 / 2 ^ i ≡ (bit b + 2 * value_of bs) / 2 ^ (1 + i) = shr-shr (bit b + 2 * value_of bs) 1 i in
    rw (← one-add i, ← down, half) (value_at bs i)

one_more : (n r : ℕ) → n % 2 ≡ r → eqb ((1 + n) % 2) 1 ≡ not (eqb (n % 2) 1)
one_more n zero e = let o : (1 + n) % 2 ≡ 1 = omega arith in rw (o, e)
one_more n (suc zero) e = let o : (1 + n) % 2 ≡ 0 = omega arith in rw (o, e)
one_more n (suc (suc r)) e = absurd (omega arith)

odd_step : (r n : ℕ) (bs : List Bool) → r < 2 → eqb (n % 2) 1 ≡ odd_ones bs → eqb ((r + n) % 2) 1 ≡ odd_ones (eqb r 1 ∷ bs)
unfolding odd_ones
odd_step zero n bs h e = rw zero-add e
odd_step (suc zero) n bs h e = one_more n (n % 2) refl ∙ ap not e
odd_step (suc (suc r)) n bs h e = absurd (omega arith)

-- an odd number of bits set is an odd count of them
pub odd_ones_lem : (w x : ℕ) → x < 2 ^ w → eqb (ones x % 2) 1 ≡ odd_ones (bits_of w x)
unfolding bits_of odd_ones ones
odd_ones_lem zero x h = let z : x ≡ 0 = omega arith in rw z
odd_ones_lem (suc w) x h = rw (ones_step x) (odd_step (x % 2) (ones (x / 2)) (bits_of w (x / 2)) (omega arith) (odd_ones_lem w (x / 2) (omega arith)))

-- the parity of a character is that of its data bits, however many bits are counted past them
pub odd_cut : (v w x : ℕ) → x % 2 ^ w < 2 ^ v → odd_ones (bits_of v (x % 2 ^ w)) ≡ odd_ones (bits_of w x)
odd_cut v w x h = rw (← odd_ones_lem v (x % 2 ^ w) h, odd_ones_lem w (x % 2 ^ w) (mod-lt x (one-le-pow w 2 (omega arith))), bits_cut)
