-- The wires of a header. Order 7: "1 to 16 wires (names of 1 to 32 characters and one-character codes, ! to ~, each once)".
-- A text is looked at from some place on. Assumes nothing.
use Rattle.std.specs.Prelude.{ℕ, zero, suc, ◌+◌, ◌≡◌, Bool, true, false, ◌&&◌, ◌||◌, List, [], ◌∷◌, eqb, ltb, length, drop}
use Rattle.std.specs.Prelude.{get_or, set, Option, None, Some}
use denote.Ref.{Bor}
use Rattle.format.specs.Pick.{pick}
use Rattle.text.specs.Bytes.{bytes_of}
use Rattle.vcd_text.specs.Header.{Wire, line_of}
use Rattle.vcd_read.specs.declared.wires.WireHere.{WireHere}
use Rattle.vcd_read.specs.declared.wires.Wires.{Wires}

-- whether a text begins with these bytes
unfoldable pub starts : List ℕ → List ℕ → Bool
starts [] text = true
starts (w ∷ ws) [] = false
starts (w ∷ ws) (b ∷ bs) = pick (eqb w b) (starts ws bs) false

-- "! to ~"
abbrev pub visible : ℕ → Bool
visible b = ltb 32 b && ltb b 127

-- the visible characters that a text begins with, at most so many
unfoldable pub name_of : ℕ → List ℕ → List ℕ
name_of zero text = []
name_of (suc n) [] = []
name_of (suc n) (b ∷ bs) = pick (visible b) (b ∷ name_of n bs) []

-- "`$var wire 1 ! TxDA $end`": the words before the code, and those after the name
abbrev pub var_words : List ℕ
var_words = bytes_of "$var wire 1 "

abbrev pub end_words : List ℕ
end_words = line_of " $end"

-- the wire that a text begins with, if it begins with one: the code is its 13th byte, and the name begins with its 15th
abbrev pub name_here : List ℕ → List ℕ
name_here text = name_of 33 (drop 14 text)

abbrev pub wire_here : List ℕ → Wire
wire_here text = record { code = get_or text 12 0; name = name_here text }

abbrev pub named : ℕ → Bool
named n = ltb 0 n && ltb n 33

unfoldable pub is_wire : List ℕ → Bool
is_wire text =
    pick (starts var_words text)
    (pick (visible (get_or text 12 0) && eqb (get_or text 13 0) 32)
    (pick (named (length (name_here text))) (starts end_words (drop (14 + length (name_here text)) text)) false)
    false)
    false

-- where its line ends
abbrev pub wire_end : List ℕ → ℕ
wire_end text = length (name_here text) + 20

-- as the code has it: the wire, and the text after its line
abbrev pub told : WireHere → Wire
told w = record { code = w.code; name = w.name.now }

abbrev pub IsWireAt : List ℕ → Option (WireHere × Bor (List ℕ)) → Type 0
IsWireAt text None = is_wire text ≡ false
IsWireAt text (Some p) = (is_wire text ≡ true) × (told p.0 ≡ wire_here text) × (p.1.now ≡ drop (wire_end text) text)

-- the wires that a text begins with, at most so many
unfoldable pub wires_of : ℕ → List ℕ → List Wire
wires_of zero text = []
wires_of (suc n) text = pick (is_wire text) (wire_here text ∷ wires_of n (drop (wire_end text) text)) []

-- how many bytes their lines take
unfoldable pub wires_end : ℕ → List ℕ → ℕ
wires_end zero text = 0
wires_end (suc n) text = pick (is_wire text) (wire_end text + wires_end n (drop (wire_end text) text)) 0

-- those of a text, which begin with its 47th byte, and where their lines end
abbrev pub wires_in : List ℕ → List Wire
wires_in text = wires_of 17 (drop 46 text)

abbrev pub wires_over : List ℕ → ℕ
wires_over text = 46 + wires_end 17 (drop 46 text)

-- as the code has them, one after the other: the wires that are left, and the text after them all
unfoldable pub left : Wires → List Wire
left s = wires_of s.most s.rest.now

unfoldable pub beyond : Wires → List ℕ
beyond s = drop (wires_end s.most s.rest.now) s.rest.now

-- one is given, or none is left
abbrev pub GivesWire : Wires → Option WireHere → Wires → Type 0
GivesWire s None t = (left s ≡ []) × (left t ≡ []) × (t.rest.now ≡ beyond s)
GivesWire s (Some w) t = (left s ≡ told w ∷ left t) × (beyond t ≡ beyond s)

-- whether two names are the same
abbrev pub same : List ℕ → List ℕ → Bool
same a b = eqb (length a) (length b) && starts a b

-- "each once": whether a wire has the code or the name of one of these
unfoldable pub clash_of : Wire → List Wire → Bool
clash_of w [] = false
clash_of w (v ∷ vs) = pick (eqb v.code w.code || same w.name v.name) true (clash_of w vs)

unfoldable pub twice_of : List Wire → Bool
twice_of [] = false
twice_of (w ∷ ws) = pick (clash_of w ws) true (twice_of ws)

-- "those codes"
unfoldable pub has_code : List Wire → ℕ → Bool
has_code [] c = false
has_code (w ∷ ws) c = pick (eqb w.code c) true (has_code ws c)

-- "the caller names the two wires": the code of the wire of this name
unfoldable pub code_named : List ℕ → List Wire → Option ℕ
code_named name [] = None
code_named name (w ∷ ws) = pick (same name w.name) (Some w.code) (code_named name ws)

-- the codes as a table: each of them is known there
unfoldable pub filled : List Wire → List Bool → List Bool
filled [] table = table
filled (w ∷ ws) table = filled ws (set table w.code true)
