-- Wrong answers, each shut out by a definition: a routine that gave it would not meet its contract. Assumes nothing.
use Prim.Native.Nat.{ℕ}
use mathlib.Core.Path.{◌≡◌}
use native.Mathlib.Omega.{arith}
use Rattle.front.specs.declared.front.Front.{Front}
use Rattle.front.specs.Front.{front_at}
use Rattle.front_writes.specs.Writes.{preload_written}

-- "preload high, low", and the count stays
no_preload_loads_count : ((f : Front) (preload : ℕ) → preload ≡ (preload_written f preload).timer.count) → ⊥
unfolding front_at
no_preload_loads_count h = omega (arith, h (front_at 255) 5)
