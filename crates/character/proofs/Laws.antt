-- Document 01's words of the marks, written out: each holds by computing. The statement takes what it speaks of, so that wrong marks are refuted by
-- it. Assumes nothing.
use mathlib.Core.Path.{◌≡◌, refl}
use mathlib.Core.Bool.{true, false, ◌||◌}
use Rattle.character.specs.declared.character.Character.{Character}
use Rattle.character.specs.declared.character.Marks.{Marks}
use Rattle.character.specs.Character.{no_marks, or_marks, unmarked_of, break_character}

pub record Marked (none : Marks) (sum : Marks → Marks → Marks) (cleared : Character → Character) (break : Character) : Type 0 where
  pub unmarked : none ≡ record { broken = false; framing = false; parity = false }
  -- "the marks, each bit ORed"
  pub broken : (a b : Marks) → (sum a b).broken ≡ (a.broken || b.broken)
  pub framing : (a b : Marks) → (sum a b).framing ≡ (a.framing || b.framing)
  pub parity : (a b : Marks) → (sum a b).parity ≡ (a.parity || b.parity)
  -- "4 clear .. the top character's marks": all three, and nothing of its byte
  pub clear : (c : Character) → cleared c ≡ record { byte = c.byte; marks = record { broken = false; framing = false; parity = false } }
  -- "a zero with the break mark alone"
  pub alone : break ≡ record { byte = 0; marks = record { broken = true; framing = false; parity = false } }

pub marked : Marked no_marks or_marks unmarked_of break_character
marked =
    record {
      unmarked = refl;
      broken = λ a b. refl;
      framing = λ a b. refl;
      parity = λ a b. refl;
      clear = λ c. refl;
      alone = refl;
    }
