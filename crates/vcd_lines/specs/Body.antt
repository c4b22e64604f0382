-- The lines after the header, byte by byte. Order 7: "then times up to 4,000,000,000 ns, no leading zeros, each with any
-- value lines of those codes". Assumes nothing.
use Rattle.std.specs.Prelude.{ℕ, ◌+◌, ◌-◌, ◌*◌, Bool, true, false, ◌&&◌, ◌||◌, List, [], ◌∷◌, ◌++◌, eqb, leb}
use Rattle.format.specs.Pick.{pick}
use Rattle.text.specs.Numbers.{digit}
use Rattle.vcd_text.specs.Lines.{Line}
use Rattle.vcd_text.specs.Lines.Line.{Time, Value}
use Rattle.vcd_lines.specs.declared.body.Place.{Place}
use Rattle.vcd_lines.specs.declared.body.Place.TheVariants.{LineStart, Hash, Digits, Whole, Level, Code, Outside}
use Rattle.vcd_lines.specs.declared.body.Reading.{Reading}
use Rattle.vcd_lines.specs.declared.body.Said.{Said}
use Rattle.vcd_lines.specs.declared.body.Said.TheVariants.{NoLine, TimeLine, ValueLine}

abbrev pub started : Reading
started = record { place = LineStart; timed = false }

-- no line has begun
abbrev pub at_start : Place → Bool
at_start LineStart = true
at_start p = false

-- a line begins: 35 is #, 48 and 49 are 0 and 1; a value line belongs to a time
unfoldable pub begun : ℕ → Bool → Place
begun b timed = pick (eqb b 35) Hash (pick (timed && (eqb b 48 || eqb b 49)) (Level (eqb b 49)) Outside)

-- the first digit of a time: "no leading zeros"
unfoldable pub first_digit : ℕ → Place
first_digit b = pick (eqb b 48) (Whole 0) (pick (digit b) (Digits (b - 48)) Outside)

-- a line's end must follow
unfoldable pub must_end : ℕ → Place
must_end b = pick (eqb b 10) LineStart Outside

-- one digit more: "times up to 4,000,000,000 ns"
unfoldable pub next_digit : ℕ → ℕ → Place
next_digit t b =
    pick (digit b)
    (pick (leb t 400000000) (pick (leb (t * 10 + (b - 48)) 4000000000) (Digits (t * 10 + (b - 48))) Outside) Outside)
    (must_end b)

-- a code of the header must follow
unfoldable pub coded : Bool → ℕ → Bool → Place
coded v b known = pick known (Code v b) Outside

-- the place after one byte more; whether it is a code of the header is asked of the header
abbrev pub place_after : Place → Bool → ℕ → Bool → Place
place_after LineStart timed b known = begun b timed
place_after Hash timed b known = first_digit b
place_after (Digits t) timed b known = next_digit t b
place_after (Whole t) timed b known = must_end b
place_after (Level v) timed b known = coded v b known
place_after (Code v c) timed b known = must_end b
place_after Outside timed b known = Outside

-- a time's line, which its end ends; with that a time has come
abbrev pub in_time : Place → Bool
in_time (Digits t) = true
in_time (Whole t) = true
in_time p = false

unfoldable pub taken_of : Reading → ℕ → Bool → Reading
taken_of r b known =
    record { place = place_after r.place r.timed b known; timed = r.timed || (in_time r.place && eqb b 10) }

-- the line that ends in a place, and the one that a byte ends
abbrev pub line_at : Place → Said
line_at (Digits t) = TimeLine t
line_at (Whole t) = TimeLine t
line_at (Code v c) = ValueLine c v
line_at p = NoLine

unfoldable pub said_of : Reading → ℕ → Said
said_of r b = pick (eqb b 10) (line_at r.place) NoLine

abbrev pub line_of : Said → List Line
line_of NoLine = []
line_of (TimeLine t) = Time t ∷ []
line_of (ValueLine c v) = Value c v ∷ []

-- ---- a whole text ----

-- the reading after some bytes, and the lines that they end; `known` are the header's codes
unfoldable pub read_all : (ℕ → Bool) → Reading → List ℕ → Reading
read_all known r [] = r
read_all known r (b ∷ bs) = read_all known (taken_of r b (known b)) bs

unfoldable pub lines_read : (ℕ → Bool) → Reading → List ℕ → List Line
lines_read known r [] = []
lines_read known r (b ∷ bs) = line_of (said_of r b) ++ lines_read known (taken_of r b (known b)) bs
