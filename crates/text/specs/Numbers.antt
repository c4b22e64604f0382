-- Numbers that are read in decimal, byte by byte. Assumes nothing.
use Rattle.std.specs.Prelude.{ℕ, ◌+◌, ◌-◌, ◌*◌, Bool, ◌&&◌, List, [], ◌∷◌, Option, Some, None, ltb, leb}
use Rattle.format.specs.Pick.{pick}

-- 0 to 9
abbrev pub digit : ℕ → Bool
digit b = ltb 47 b && ltb b 58

-- none above 4,000,000,000
unfoldable pub value_after : ℕ → ℕ → Option ℕ
value_after n b = pick (leb (n * 10 + (b - 48)) 4000000000) (Some (n * 10 + (b - 48))) None

-- after what is no number, or none up to 4,000,000,000, none comes
unfoldable pub number_after : Option ℕ → ℕ → Option ℕ
number_after None b = None
number_after (Some n) b = pick (digit b) (value_after n b) None

-- what is read of a word, after what was read before
unfoldable pub number_from : Option ℕ → List ℕ → Option ℕ
number_from n [] = n
number_from n (b ∷ bs) = number_from (number_after n b) bs
