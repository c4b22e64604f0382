-- The logs. Order 7: "There are two lent logs, one per channel, two bytes a character (data, marks as SR 7-5)". Assumes
-- nothing.
use Rattle.std.specs.Prelude.{ℕ, ◌+◌, List, [], ◌∷◌, ◌++◌}
use Rattle.format.specs.Pick.{pick}
use Rattle.character.specs.declared.character.Character.{Character}
use Rattle.character.specs.declared.character.Marks.{Marks}

-- "SR bits 7-0: break, framing, parity, .."
unfoldable pub marks_byte : Marks → ℕ
marks_byte m = pick m.broken 128 0 + (pick m.framing 64 0 + pick m.parity 32 0)

unfoldable pub character_bytes : Character → List ℕ
character_bytes c = c.byte ∷ marks_byte c.marks ∷ []

unfoldable pub log_bytes : List Character → List ℕ
log_bytes [] = []
log_bytes (c ∷ cs) = character_bytes c ++ log_bytes cs
