-- Which commands are not taken, written out: bits 3-0 decide, and their sixteen codes are computed. Assumes nothing.
use Prim.Native.Nat.{ℕ, ◌/◌, ◌%◌}
use mathlib.Core.Path.{◌≡◌, refl}
use mathlib.Core.Bool.{Bool, true, false}
use mathlib.Core.List.{[], ◌∷◌, map}
use native.Mathlib.Omega.{arith}
use lib.Pow.{field}
use Rattle.events.specs.Command.{command_forbidden}

-- "command whose bits 3-2 or 1-0 are 11": 3, 7 and 11 to 15, whatever bits 7-4 are. The statement takes the test that it speaks of.
pub record Forbidden (test : ℕ → Bool) : Type 0 where
  pub codes :
      map test (0 ∷ 1 ∷ 2 ∷ 3 ∷ 4 ∷ 5 ∷ 6 ∷ 7 ∷ 8 ∷ 9 ∷ 10 ∷ 11 ∷ 12 ∷ 13 ∷ 14 ∷ 15 ∷ [])
      ≡ false ∷ false ∷ false ∷ true ∷ false ∷ false ∷ false ∷ true ∷ false ∷ false ∷ false ∷ true ∷ true ∷ true ∷ true ∷ true ∷ []
  pub above : (byte : ℕ) → test byte ≡ test (byte % 16)

pub forbidden : Forbidden command_forbidden
forbidden =
    record {
      codes = refl;
      above = λ byte.
          let low : byte % 16 % 4 ≡ byte % 4 = omega arith in
          let part : byte % 16 / 4 ≡ byte / 4 % 4 = field byte 2 2 in
          let high : byte % 16 / 4 % 4 ≡ byte / 4 % 4 = omega (arith, part) in
          rw (low, high);
    }
