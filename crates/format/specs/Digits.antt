-- A number's bits as levels, the lowest first, and back. Assumes nothing.
use Rattle.std.specs.Prelude.{ℕ, zero, suc, ◌+◌, ◌*◌, ◌/◌, ◌%◌, ◌^◌, Bool, true, false, not, List, [], ◌∷◌, eqb}

-- a level as a number: 1 is high
abbrev pub bit : Bool → ℕ
bit true = 1
bit false = 0

-- and as text: the character 1 or 0
unfoldable pub digit_of : Bool → ℕ
digit_of level = 48 + bit level

-- the lowest `w` bits of a number, lowest first
unfoldable pub bits_of : ℕ → ℕ → List Bool
bits_of zero x = []
bits_of (suc w) x = eqb (x % 2) 1 ∷ bits_of w (x / 2)

-- the number whose bits these are
unfoldable pub value_of : List Bool → ℕ
value_of [] = 0
value_of (b ∷ bs) = bit b + 2 * value_of bs

-- whether an odd number of these are 1
unfoldable pub odd_ones : List Bool → Bool
odd_ones [] = false
odd_ones (true ∷ bs) = not (odd_ones bs)
odd_ones (false ∷ bs) = odd_ones bs

-- a character cut to its data bits: "255 with 5 bits: data 31"
abbrev pub cut_of : ℕ → ℕ → ℕ
cut_of w x = x % 2 ^ w
