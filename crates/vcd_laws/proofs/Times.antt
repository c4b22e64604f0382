-- The times of ticks: 625,000 is more than 2,304, so that the whole parts rise. Assumes nothing.
use Prim.Native.Nat.{ℕ, suc, ◌*◌, ◌^◌, ◌≤◌, ◌<◌}
use mathlib.Core.Path.{◌≡◌}
use mathlib.Core.List.{List, [], ◌∷◌}
use native.Mathlib.Omega.{arith}
use Rattle.vcd_text.specs.Time.{time_of}
use Rattle.vcd_text.specs.Lines.{RisesFrom}

pub time_rises : (n : ℕ) → time_of n < time_of (suc n)
time_rises n = omega arith

-- no two ticks share a time
pub one_time : (m n : ℕ) → time_of m ≡ time_of n → m ≡ n
one_time m n e = omega arith

-- no product leaves 64 bits
pub time_fits : (n : ℕ) → n < 2 ^ 32 → n * 625000 < 2 ^ 64
time_fits n h = omega arith

pub rises_later : (t u : ℕ) (ts : List ℕ) → t ≤ u → RisesFrom u ts → RisesFrom t ts
unfolding RisesFrom
rises_later t u [] h r = tt
rises_later t u (v ∷ vs) h r = (omega (arith, r.0), r.1)
