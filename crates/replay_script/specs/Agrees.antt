-- A line that is read byte by byte says what its words mean. Assumes nothing.
use Rattle.std.specs.Prelude.{ℕ, ◌<◌, ◌≡◌, List, [], ◌∷◌}
use Rattle.replay_script.specs.Script.{line_of}
use Rattle.replay_script.specs.Reading.{started, taken_all}
use Rattle.replay_script.specs.Lines.{told_of}

-- each is a byte
unfoldable pub AreBytes : List ℕ → Type 0
AreBytes [] = Unit {0}
AreBytes (b ∷ bs) = (b < 256) × AreBytes bs

abbrev pub Agrees : Type 0
Agrees = (line : List ℕ) → AreBytes line → told_of (taken_all started line) ≡ line_of line
