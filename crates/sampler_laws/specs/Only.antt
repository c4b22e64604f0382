-- The sampling rule leaves no choice: two that meet its statements put the same characters together, confirm the same
-- starts and set break change at the same lines, whatever a receiver hears from its enable on. So a wrong sampler that
-- met them would be right. Assumes nothing.
use Rattle.std.specs.Prelude.{◌≡◌, Bool, true, ◌&&◌, List, [], ◌∷◌, leb}
use Rattle.sampler.specs.Lines.{Line}
use Rattle.sampler.specs.Lines.Line.{pulse, enable, disable}
use Rattle.sampler_laws.specs.Sampling.{Found, Assembly, Flags, Samples, Enables}
use Rattle.sampler_laws.specs.Breaks.{Breaks}
use Rattle.sampler_laws.specs.Confirms.{Tells}

-- widths that MR1 can choose: "1-0 data bits less 5"
abbrev pub narrow : Found → Bool
narrow [] = true
narrow ((b, f) ∷ ls) = leb f.format.width.0 8 && narrow ls

abbrev pub narrow_lines : List Line → Bool
narrow_lines [] = true
narrow_lines (pulse b f ∷ xs) = leb f.format.width.0 8 && narrow_lines xs
narrow_lines (enable ∷ xs) = narrow_lines xs
narrow_lines (disable ∷ xs) = narrow_lines xs

-- what is said of arrivals
pub record Arrives (idle enabled : Assembly) : Type 0 where
  pub samples : Samples idle
  pub breaks : Breaks idle
  pub enables : Enables idle enabled

pub record Only : Type 0 where
  pub arrivals : (idle enabled idle₂ enabled₂ : Assembly) → Arrives idle enabled → Arrives idle₂ enabled₂
      → (xs : List Line) → narrow_lines xs ≡ true → enabled xs ≡ enabled₂ xs
  pub told : (start change : Bool) (idle enabled idle₂ enabled₂ : Flags)
      → Tells start change idle enabled → Tells start change idle₂ enabled₂
      → (xs : List Line) → narrow_lines xs ≡ true → enabled xs ≡ enabled₂ xs
