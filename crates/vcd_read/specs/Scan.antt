-- A whole text: whether it is in the subset, its wires, its lines and their times. Order 7: "Read order 6's header for 1 to
-- 16 wires .., then times up to 4,000,000,000 ns, no leading zeros, each with any value lines of those codes". Assumes
-- nothing.
use Rattle.std.specs.Prelude.{ℕ, ◌+◌, Bool, false, ◌&&◌, ◌||◌, List, [], ◌∷◌, ◌++◌, ltb, leb, length, drop}
use Rattle.std.specs.Prelude.{get_or, Option, None, Some, Result, Ok, Err}
use Rattle.format.specs.Pick.{pick}
use Rattle.vcd_text.specs.Header.{line_of}
use Rattle.vcd_text.specs.Lines.{Line}
use Rattle.vcd_text.specs.Lines.Line.{Time, Value}
use Rattle.vcd_read.specs.declared.checking.Checked.{Checked}
use Rattle.vcd_read.specs.declared.checking.Times.{Times}
use Rattle.vcd_read.specs.declared.scanning.Header.{Header}
use Rattle.refusal.specs.declared.refusal.Refusal.{Refusal}
use Rattle.refusal.specs.declared.refusal.Refusal.TheVariants.{TextOutside, TimeNotLater}
use Rattle.refusal.specs.Refusal.{number_of}
use Rattle.vcd_read.specs.declared.scanning.Scanned.{Scanned}
use Rattle.vcd_lines.specs.declared.body.Said.{Said}
use Rattle.vcd_lines.specs.declared.body.Said.TheVariants.{NoLine, TimeLine, ValueLine}
use Rattle.vcd_lines.specs.Body.{started, at_start, taken_of, said_of}
use Rattle.vcd_read.specs.Wires.{starts, wires_in, wires_over, twice_of, has_code, code_named}

-- ---- the times ----

-- no time yet; and one more, which may come too late
abbrev pub no_times : Times
no_times = record { last = None; late = false }

abbrev pub not_later : ℕ → Option ℕ → Bool
not_later t None = false
not_later t (Some last) = leb t last

abbrev pub time_added : Times → ℕ → Times
time_added x t = record { last = Some t; late = x.late || not_later t x.last }

unfoldable pub times_said : Times → Said → Times
times_said x NoLine = x
times_said x (TimeLine t) = time_added x t
times_said x (ValueLine c v) = x

-- "11 a time not later than the one before"
unfoldable pub times_from : Times → List Line → Times
times_from x [] = x
times_from x (Time t ∷ ls) = times_from (time_added x t) ls
times_from x (Value c v ∷ ls) = times_from x ls

-- ---- the lines after the header ----

-- the codes of a table
abbrev pub in_table : List Bool → ℕ → Bool
in_table codes b = get_or codes b false

-- what is known of the bytes so far, with one more; and with many
unfoldable pub checked_by : Checked → ℕ → Bool → Checked
checked_by x b known =
    record { reading = taken_of x.reading b known; times = times_said x.times (said_of x.reading b) }

unfoldable pub checked_of : (ℕ → Bool) → Checked → List ℕ → Checked
checked_of known x [] = x
checked_of known x (b ∷ bs) = checked_of known (checked_by x b (known b)) bs

abbrev pub unchecked : Checked
unchecked = record { reading = started; times = no_times }

-- ---- the header ----

-- the lines before the wires, and those after them
abbrev pub open_words : List ℕ
open_words = line_of "$timescale 1 ns $end" ++ line_of "$scope module duart $end"

abbrev pub close_words : List ℕ
close_words = line_of "$upscope $end" ++ line_of "$enddefinitions $end"

-- "1 to 16 wires"
abbrev pub few : ℕ → Bool
few n = ltb 0 n && ltb n 17

-- no "named wire missing"
unfoldable pub named_header : Option ℕ → Option ℕ → ℕ → Option Header
named_header (Some a) (Some b) body = Some (record { code_a = a; code_b = b; body = body })
named_header None b body = None
named_header (Some a) None body = None

-- "1 to 16 wires", "each once", and no "named wire missing"; the names are of the wires of A and B
unfoldable pub header_read : List ℕ → List ℕ → List ℕ → Option Header
header_read text a b =
    pick (starts open_words text)
    (pick (few (length (wires_in text)))
    (pick (twice_of (wires_in text)) None
    (pick (starts close_words (drop (wires_over text) text))
    (named_header (code_named a (wires_in text)) (code_named b (wires_in text)) (wires_over text + 35))
    None))
    None)
    None

-- ---- the whole ----

abbrev pub body_checked : List ℕ → ℕ → Checked
body_checked text at = checked_of (has_code (wires_in text)) unchecked (drop at text)

-- "10 text outside the subset or a named wire missing, 11 a time not later than the one before": in this order over the
-- whole text. A text inside ends with a line's end.
unfoldable pub judged : Header → Checked → Result Scanned Refusal
judged h x =
    pick (at_start x.reading.place)
    (pick x.times.late (Err TimeNotLater)
    (Ok (record { code_a = h.code_a; code_b = h.code_b; body = h.body; times = x.times })))
    (Err TextOutside)

unfoldable pub scan_with : List ℕ → Option Header → Result Scanned Refusal
scan_with text None = Err TextOutside
scan_with text (Some h) = judged h (body_checked text h.body)

unfoldable pub scan_of : List ℕ → List ℕ → List ℕ → Result Scanned Refusal
scan_of text a b = scan_with text (header_read text a b)

-- the number of what is answered, 0 where the text is inside
unfoldable pub scan_number : Result Scanned Refusal → ℕ
scan_number (Ok s) = 0
scan_number (Err r) = number_of r

-- what is found of a text: of one that is refused, nothing
abbrev pub nothing_found : Scanned
nothing_found = record { code_a = 0; code_b = 0; body = 0; times = no_times }

unfoldable pub found_in : Result Scanned Refusal → Scanned
found_in (Ok s) = s
found_in (Err r) = nothing_found
