-- A list cut into pieces of so many: what stands in a piece. By induction on the pieces. Assumes nothing.
use Prim.Native.Nat.{ℕ, zero, suc, ◌+◌, ◌*◌, ◌<◌}
use mathlib.Core.Path.{◌≡◌, ◌∙◌}
use mathlib.Core.List.{List, []}
use native.Mathlib.Omega.{arith}
use lib.ListN.{drop, get_or}
use Rattle.std.proofs.lemmas.List.{get_or-take, get_or-drop}
use Rattle.std.specs.Simd.{first_chunks}

pub piece_byte : (n k i j : ℕ) (xs : List ℕ) → i < k → j < n → get_or (get_or (first_chunks n k xs) i []) j 0 ≡ get_or xs (n * i + j) 0
piece_byte n zero i j xs h l = absurd (omega arith)
piece_byte n (suc k) zero j xs h l =
    let e : n * 0 + j ≡ j = omega arith in
    rw e (get_or-take n xs j 0 l)
piece_byte n (suc k) (suc i) j xs h l =
    let e : n + (n * i + j) ≡ n * suc i + j = omega arith in
    piece_byte n k i j (drop n xs) (omega arith) l ∙ get_or-drop n xs (n * i + j) 0 ∙ rw e
