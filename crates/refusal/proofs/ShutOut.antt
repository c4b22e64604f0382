-- Wrong answers, each shut out by a definition: a routine that gave it would not meet its contract. Assumes nothing.
use Prim.Native.Nat.{ℕ}
use mathlib.Core.Path.{◌≡◌, ap}
use mathlib.Core.List.{List}
use native.Mathlib.Omega.{arith}
use lib.ListN.{get_or}
use Rattle.std.specs.Prelude.{Option, None}
use Rattle.refusal.specs.declared.refusal.Refusal.{Refusal}
use Rattle.refusal.specs.Refusal.{answer_number}
use Rattle.refusal.proofs.Laws.{Numbered}

-- one number for all rows, as the first has it
no_one_for_all : Numbered (λ (refusal : Refusal). 1) → ⊥
no_one_for_all h = omega (arith, ap (λ (l : List ℕ). get_or l 1 0) h)

-- 0 is accepted: this one answers as if row 1 applied
no_acceptance_is_1 : ((refusal : Option Refusal) → 1 ≡ answer_number refusal) → ⊥
no_acceptance_is_1 h = omega (arith, h None)
