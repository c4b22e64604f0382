-- The parity bit. Assumes nothing.
use Rattle.std.specs.Prelude.{ℕ, Bool, not, List, [], ◌∷◌, eqb, ltb}
use Rattle.format.specs.declared.format.Format.{Format}
use Rattle.format.specs.Pick.{pick}
use Rattle.format.specs.Digits.{bits_of, odd_ones}

-- the data bits in use, lowest first
abbrev pub data_bits : Format → ℕ → List Bool
data_bits f x = bits_of f.width.0 x

-- "parity 00 with, 01 forced, 10 none": 11, which is not modelled, has none either
abbrev pub has_parity_of : Format → Bool
has_parity_of f = ltb f.parity 2

-- With: the number of ones among the data bits in use and this bit is even, or odd where odd is chosen. Forced: low, or
-- high. Where there is none, `has_parity_of` says so; the answer is then that of forced.
unfoldable pub parity_bit_of : Format → ℕ → Bool
parity_bit_of f x =
    pick (eqb f.parity 0)
    (pick f.odd (not (odd_ones (data_bits f x))) (odd_ones (data_bits f x)))
    f.odd

-- "parity if any"
unfoldable pub parity_bits : Format → ℕ → List Bool
parity_bits f x = pick (has_parity_of f) (parity_bit_of f x ∷ []) []
