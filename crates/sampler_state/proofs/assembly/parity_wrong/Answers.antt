-- `parity_wrong` meets its contract: a level differs from the right one where the definition says so. Assumes nothing.
use mathlib.Core.Path.{◌≡◌, refl}
use mathlib.Core.Bool.{Bool, true, false, not, beq}
use Rattle.format.specs.Pick.{pick}
use Rattle.format.proofs.Laws.{steps}
use Rattle.sampler_state.specs.Assembly.{parity_wrong_of}
use Rattle.sampler_state.proofs.assembly.parity_wrong.Goals as goal

differs : (level right : Bool) → not (beq level right) ≡ pick level (not right) right
unfolding pick
differs true true = refl
differs true false = refl
differs false true = refl
differs false false = refl

pub returns-then-has_parity : goal.returns-then-has_parity
unfolding parity_wrong_of
returns-then-has_parity c = simp (differs, ← c.data_weight.ensures, c.parity_bit-right.ensures, c.data_of.ensures, ← c.has_parity.ensures) (search steps)

pub returns : goal.returns
unfolding parity_wrong_of
returns c = simp (← c.has_parity.ensures) (search steps)
