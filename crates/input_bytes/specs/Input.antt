-- What of an input is still to come, where that is known, and what one step hands on.
use Rattle.std.specs.Prelude.{ℕ, List, [], ◌∷◌, take, drop, MatchOption}
use Rattle.std.specs.declared.option.Option.{Option}
use Rattle.std.specs.Io.KnownBytes.{Keeps, Consumes, prepend_known}

-- the rest of the chunk, and then what the reader has left
abbrev pub still_left : List ℕ → ℕ → ℕ → Option (List ℕ) → Option (List ℕ)
still_left chunk at end left = prepend_known (drop at (take end chunk)) left

-- the byte that comes is the first one still to come; where none comes, all stays as it is
abbrev pub HandsOn : Option (List ℕ) → Option ℕ → Option (List ℕ) → Type 0
HandsOn before came after = MatchOption came (Keeps before after) (λ byte. Consumes before after (byte ∷ []))
