-- The example of document 01, from what is printed for any bytes. Assumes nothing.
use mathlib.Core.Path.{◌≡◌, refl, ◌∙◌}
use mathlib.Core.List.{[], ◌∷◌}
use Rattle.format.specs.Digits.{digit_of, bits_of}
use Rattle.lister_line.specs.Line.{printed, frame_text, frames_text}
use Rattle.lister_laws.proofs.Lines.{lines}

-- "Input `UA` prints exactly:" 0101010101 and 0100000101, each with its newline
pub example : printed (85 ∷ 65 ∷ []) ≡ 48 ∷ 49 ∷ 48 ∷ 49 ∷ 48 ∷ 49 ∷ 48 ∷ 49 ∷ 48 ∷ 49 ∷ 10 ∷ 48 ∷ 49 ∷ 48 ∷ 48 ∷ 48 ∷ 48 ∷ 48 ∷ 49 ∷ 48 ∷ 49 ∷ 10 ∷ []
unfolding frames_text frame_text digit_of bits_of
example = lines (85 ∷ 65 ∷ []) ∙ refl

-- empty input
pub nothing : printed [] ≡ []
unfolding frames_text
nothing = lines []
