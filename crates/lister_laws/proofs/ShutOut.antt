-- Wrong lines, each shut out by the example of document 01. Assumes nothing.
use Prim.Native.Nat.{ℕ}
use mathlib.Core.Path.{◌≡◌, ap, ◌∙◌}
use mathlib.Core.List.{List, [], ◌∷◌}
use native.Mathlib.Omega.{arith}
use lib.ListN.{get_or}
use Rattle.lister_line.specs.Line.{printed}
use Rattle.lister_laws.proofs.Examples.{example}

-- 0101010101, and then TxDA stays high
no_second_byte_lost :
    48 ∷ 49 ∷ 48 ∷ 49 ∷ 48 ∷ 49 ∷ 48 ∷ 49 ∷ 48 ∷ 49 ∷ 10 ∷ 49 ∷ 49 ∷ 49 ∷ 49 ∷ 49 ∷ 49 ∷ 49 ∷ 49 ∷ 49 ∷ 49 ∷ 10 ∷ []
    ≡ printed (85 ∷ 65 ∷ [])
    → ⊥
no_second_byte_lost h = omega (arith, ap (λ (l : List ℕ). get_or l 11 0) (h ∙ example))

-- "data lowest bit first": 0010101011 and 0010000011
no_lines_highest_first :
    48 ∷ 48 ∷ 49 ∷ 48 ∷ 49 ∷ 48 ∷ 49 ∷ 48 ∷ 49 ∷ 49 ∷ 10 ∷ 48 ∷ 48 ∷ 49 ∷ 48 ∷ 48 ∷ 48 ∷ 48 ∷ 48 ∷ 49 ∷ 49 ∷ 10 ∷ []
    ≡ printed (85 ∷ 65 ∷ [])
    → ⊥
no_lines_highest_first h = omega (arith, ap (λ (l : List ℕ). get_or l 1 0) (h ∙ example))
