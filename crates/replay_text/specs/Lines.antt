-- The text of what is answered. Assumes nothing.
use Rattle.std.specs.Prelude.{ℕ, ◌≤◌, ◌≡◌, Bool, List, [], ◌∷◌, ◌++◌, length, take}
use Rattle.format.specs.Digits.{digit_of}
use Rattle.text.specs.Bytes.{bytes_of}
use Rattle.text.specs.Decimal.{decimal_of}

abbrev pub flag_text : Bool → List ℕ
flag_text flag = digit_of flag ∷ []

-- the line of an answer, in decimal: a byte has at most three places; 32 is a space, 10 ends the line
abbrev pub seen_text : ℕ → ℕ → Bool → Bool → Bool → ℕ → Bool → List ℕ
seen_text number byte irq txda txdb op fresh =
    decimal_of 3 number ++ 32 ∷ [] ++ decimal_of 3 byte ++ 32 ∷ [] ++ flag_text irq ++ 32 ∷ [] ++ flag_text txda ++ 32 ∷ []
    ++ flag_text txdb ++ 32 ∷ []
    ++ decimal_of 3 op ++ 32 ∷ []
    ++ flag_text fresh ++ 10 ∷ []

-- the line for one that cannot be read: a number of 64 bits has at most twenty places
unfoldable pub error_text : ℕ → List ℕ
error_text line = bytes_of "error line " ++ decimal_of 20 line ++ 10 ∷ []

-- so many bytes stand at the front of a space; the second part follows from the first, and both are what a caller's
-- part of the space asks
abbrev pub Within : ℕ → List ℕ → Type 0
Within n space = (n ≤ length space) × (n ≡ length (take n space))
