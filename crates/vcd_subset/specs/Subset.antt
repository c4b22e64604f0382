-- The texts that order 7 reads, by what may have been written: order 6's header for some wires, and lines. Order 7: "Read
-- order 6's header for 1 to 16 wires (names of 1 to 32 characters and one-character codes, ! to ~, each once), then times up
-- to 4,000,000,000 ns, no leading zeros, each with any value lines of those codes". No reader stands in it. Assumes nothing.
use Rattle.std.specs.Prelude.{ℕ, ◌≤◌, ◌<◌, ◌≡◌, Bool, true, false, List, [], ◌∷◌, ◌++◌, length, get_or}
use Rattle.vcd_text.specs.Header.{Wire, header_of}
use Rattle.vcd_text.specs.Lines.{Line, lines_text}
use Rattle.vcd_text.specs.Lines.Line.{Time, Value}

-- "! to ~"
abbrev pub Visible : ℕ → Type 0
Visible c = (33 ≤ c) × (c ≤ 126)

unfoldable pub AllVisible : List ℕ → Type 0
AllVisible [] = Unit {0}
AllVisible (c ∷ cs) = Visible c × AllVisible cs

-- "names of 1 to 32 characters and one-character codes"
pub record Good (w : Wire) : Type 0 where
  pub code : Visible w.code
  pub some : 1 ≤ length w.name
  pub few : length w.name ≤ 32
  pub name : AllVisible w.name

-- neither the code nor the name of this one is among these
unfoldable pub Apart : Wire → List Wire → Type 0
Apart w [] = Unit {0}
Apart w (v ∷ vs) = (v.code ≡ w.code → ⊥) × ((v.name ≡ w.name → ⊥) × Apart w vs)

-- "each once"
unfoldable pub GoodWires : List Wire → Type 0
GoodWires [] = Unit {0}
GoodWires (w ∷ ws) = Good w × (Apart w ws × GoodWires ws)

-- one of the wires has this code; this wire is one of them
pub record HasCode (ws : List Wire) (c : ℕ) : Type 0 where
  pub place : ℕ
  pub within : place < length ws
  pub code : (get_or ws place (record { code = c; name = [] })).code ≡ c

-- "the caller names the two wires": this is the code of the wire with this name
pub record Named (ws : List Wire) (name : List ℕ) (c : ℕ) : Type 0 where
  pub place : ℕ
  pub within : place < length ws
  pub wire : get_or ws place (record { code = c; name = name }) ≡ record { code = c; name = name }

-- a value line belongs to a time: "times .., each with any value lines of those codes"
unfoldable pub GoodLines : List Wire → Bool → List Line → Type 0
GoodLines ws timed [] = Unit {0}
GoodLines ws timed (Time t ∷ ls) = (t ≤ 4000000000) × GoodLines ws true ls
GoodLines ws timed (Value c v ∷ ls) = (timed ≡ true) × (HasCode ws c × GoodLines ws timed ls)

-- This text says these lines of these wires.
pub record Says (text : List ℕ) (ws : List Wire) (ls : List Line) : Type 0 where
  pub some : 1 ≤ length ws
  pub few : length ws ≤ 16
  pub wires : GoodWires ws
  pub lines : GoodLines ws false ls
  pub written : text ≡ header_of ws ++ lines_text ls
