-- Numbers in decimal. Assumes nothing.
use Rattle.std.specs.Prelude.{ℕ, zero, suc, ◌+◌, ◌/◌, ◌%◌, List, [], ◌∷◌, ◌++◌, ltb}
use Rattle.format.specs.Pick.{pick}

-- a number in decimal, the first digit first and with no zero before it, if it has at most so many places; 48 is the
-- digit 0
unfoldable pub decimal_of : ℕ → ℕ → List ℕ
decimal_of zero n = []
decimal_of (suc k) n = pick (ltb n 10) ((48 + n) ∷ []) (decimal_of k (n / 10) ++ (48 + n % 10) ∷ [])
