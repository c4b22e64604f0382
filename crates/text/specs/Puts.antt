-- What it is to put text into a space. Assumes nothing.
use Rattle.std.specs.Prelude.{ℕ, ◌+◌, ◌≡◌, List, length}
use Rattle.std.proofs.lemmas.List.Edits.{sets}
use Rattle.text.specs.declared.putting.Page.{Page}

-- Text that is put from a place on: each byte is stored at its own place, if the space has that place, and the end is
-- the place after the last, which counts those that the space does not have too.
pub record Puts (at : ℕ) (text : List ℕ) (before after : List ℕ) (end : ℕ) : Type 0 where
  pub ends : end ≡ at + length text
  pub space : after ≡ sets before at text

-- Text that is put on a page, whose place goes on to the end. It has the space that it was lent before, too.
pub record Writes (text : List ℕ) (before after : Page) : Type 0 where
  pub same : after.space.ghost_name ≡ before.space.ghost_name
  pub puts : Puts before.at text before.space.now after.space.now after.at
