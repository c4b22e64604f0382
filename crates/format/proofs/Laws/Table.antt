-- A table's rule at each of its entries, from one test that antt computes over the whole table. Assumes nothing.
use Prim.Native.Nat.{ℕ, zero, suc, ◌+◌, ◌<◌}
use mathlib.Core.Path.{◌≡◌, refl}
use mathlib.Core.Bool.{Bool, true, false, ◌&&◌}
use mathlib.Core.List.{List, [], ◌∷◌}
use native.Mathlib.Omega.{arith}
use native.Mathlib.Nat.{add-zero, add-suc, suc-add, zero-add}
use lib.Dec.{eqb}
use lib.ListN.{length, get_or}
use borrow.Author.Tests.{eqb-true}

-- the entries, from place `i` on, are those of the rule
abbrev pub follows : (ℕ → ℕ) → ℕ → List ℕ → Bool
follows rule i [] = true
follows rule i (x ∷ xs) = eqb x (rule i) && follows rule (suc i) xs

first : (a b : Bool) → a && b ≡ true → a ≡ true
first true b e = refl
first false b e = e

pub rest : (a b : Bool) → a && b ≡ true → b ≡ true
rest true b e = e
rest false true e = refl
rest false false e = e

from : (rule : ℕ → ℕ) (xs : List ℕ) (i : ℕ) → follows rule i xs ≡ true → (k : ℕ) → k < length xs → get_or xs k 0 ≡ rule (i + k)
from rule [] i e k h = absurd (omega arith)
from rule (x ∷ xs) i e zero h = rw add-zero (eqb-true x (rule i) (first (eqb x (rule i)) (follows rule (suc i) xs) e))
from rule (x ∷ xs) i e (suc k) h =
    rw (add-suc, ← suc-add) (from rule xs (suc i) (rest (eqb x (rule i)) (follows rule (suc i) xs) e) k (omega arith))

pub entry : (rule : ℕ → ℕ) (xs : List ℕ) → follows rule 0 xs ≡ true → (k : ℕ) → k < length xs → get_or xs k 0 ≡ rule k
entry rule xs e k h = rw zero-add at (from rule xs 0 e k h)
