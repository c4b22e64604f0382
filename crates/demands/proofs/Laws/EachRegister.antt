-- The registers one by one: what holds of each of 0 to 15, and of every number above, holds of all. Assumes nothing.
use Prim.Native.Nat.{ℕ, ◌≤◌, ◌<◌}
use mathlib.Core.Path.{◌≡◌}
use native.Mathlib.Decide.{dec_lt}
use native.Mathlib.Omega.{arith}

-- of one number, and of all above it
from : (P : ℕ → Type 0) (k : ℕ) → P k → ((n : ℕ) → k < n → P n) → (n : ℕ) → k ≤ n → P n
from P k p above n h = go (dec_lt k n)
  where
    go : Dec (k < n) → P n
    go (yes j) = above n j
    go (no j) = let z : n ≡ k = omega arith in rw z p

pub by_register : (P : ℕ → Type 0) → P 0 → P 1 → P 2 → P 3 → P 4 → P 5 → P 6 → P 7
    → P 8 → P 9 → P 10 → P 11 → P 12 → P 13 → P 14 → P 15
    → ((n : ℕ) → 15 < n → P n) → (n : ℕ) → P n
by_register P p0 p1 p2 p3 p4 p5 p6 p7 p8 p9 p10 p11 p12 p13 p14 p15 above n =
    from P 0 p0 (from P 1 p1 (from P 2 p2 (from P 3 p3
    (from P 4 p4 (from P 5 p5 (from P 6 p6 (from P 7 p7
    (from P 8 p8 (from P 9 p9 (from P 10 p10 (from P 11 p11
    (from P 12 p12 (from P 13 p13 (from P 14 p14 (from P 15 p15 above)))))))))))))))
    n (omega arith)
