-- One bit of a byte, and the byte of eight bits. Assumes nothing.
use Rattle.std.specs.Prelude.{ℕ, ◌+◌, ◌/◌, ◌%◌, ◌^◌, Bool, false, eqb, ltb}
use Rattle.format.specs.Pick.{pick}

-- bit 0 is the lowest, and none stands above bit 7
unfoldable pub has_bit : ℕ → ℕ → Bool
has_bit byte number = pick (ltb number 8) (eqb (byte / 2 ^ number % 2) 1) false

-- what a bit adds to its byte
unfoldable pub weight_of : Bool → ℕ → ℕ
weight_of bit weight = pick bit weight 0

-- bit 7 first, as document 01 lists them
unfoldable pub byte_of : Bool → Bool → Bool → Bool → Bool → Bool → Bool → Bool → ℕ
byte_of b7 b6 b5 b4 b3 b2 b1 b0 =
    (weight_of b7 128 + weight_of b6 64 + weight_of b5 32 + weight_of b4 16)
    + (weight_of b3 8 + weight_of b2 4 + weight_of b1 2 + weight_of b0 1)
