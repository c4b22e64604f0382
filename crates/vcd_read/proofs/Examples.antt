-- Texts computed, in the words and numbers of order 7 and of its readings: which are inside the subset, what is found
-- in them, and which number the others have. Assumes nothing.
use Prim.Native.Nat.{ℕ}
use Prim.Native.String.{String}
use mathlib.Core.Path.{◌≡◌, refl}
use mathlib.Core.Bool.{true, false}
use mathlib.Core.List.{List, [], ◌∷◌, ◌++◌, map}
use lib.ListN.{take, drop}
use Rattle.std.specs.Prelude.{None, Some, Result, Ok}
use Rattle.text.specs.Bytes.{bytes_of}
use Rattle.vcd_text.specs.Lines.Line.{Time, Value}
use Rattle.refusal.specs.declared.refusal.Refusal.{Refusal}
use Rattle.vcd_read.specs.declared.scanning.Scanned.{Scanned}
use Rattle.vcd_lines.specs.Body.{started, lines_read}
use Rattle.vcd_read.specs.Scan.{scan_of, scan_number, found_in}
use Rattle.vcd_read.proofs.Computing.{reading, lines, around, two_wires, dump}

-- ---- the lines after the header ----

-- the number of a text with these lines, and of many
abbrev number : List String → ℕ
number body = scan_number (scan_of (dump body) (bytes_of "RxDA") (bytes_of "RxDB"))

abbrev each : List String → List ℕ
each ls = map (λ (l : String). number (l ∷ [])) ls

-- after a time
abbrev after : List String → List ℕ
after ls = map (λ (l : String). number ("#0" ∷ l ∷ [])) ls

-- "times up to 4,000,000,000 ns, no leading zeros"; of no time at all nothing is said
pub times_inside : (number [] ≡ 0)
    × (each ("#0" ∷ "#1" ∷ "#10" ∷ "#3999999999" ∷ "#4000000000" ∷ []) ≡ 0 ∷ 0 ∷ 0 ∷ 0 ∷ 0 ∷ [])
unfolding reading
times_inside = (refl, refl)

pub times_too_high :
    each ("#4000000001" ∷ "#4000000010" ∷ "#4294967296" ∷ "#40000000000" ∷ "#18446744073709551616" ∷ [])
    ≡ 10 ∷ 10 ∷ 10 ∷ 10 ∷ 10 ∷ []
unfolding reading
times_too_high = refl

pub times_ill_written : each ("#" ∷ "#00" ∷ "#01" ∷ "#+1" ∷ "#-1" ∷ "# 1" ∷ "#1 " ∷ "#1a" ∷ "#1:" ∷ "1" ∷ [])
    ≡ 10 ∷ 10 ∷ 10 ∷ 10 ∷ 10 ∷ 10 ∷ 10 ∷ 10 ∷ 10 ∷ 10 ∷ []
unfolding reading
times_ill_written = refl

-- "each with any value lines of those codes": `0` and `1` only
pub values_inside : after ("0!" ∷ "1!" ∷ "0\"" ∷ "1\"" ∷ []) ≡ 0 ∷ 0 ∷ 0 ∷ 0 ∷ []
unfolding reading
values_inside = refl

pub values_outside : after ("x!" ∷ "z!" ∷ "2!" ∷ "b1 !" ∷ "1 !" ∷ "1" ∷ "1!1\"" ∷ [])
    ≡ 10 ∷ 10 ∷ 10 ∷ 10 ∷ 10 ∷ 10 ∷ 10 ∷ []
unfolding reading
values_outside = refl

-- a code that no wire has, a blank line, spaces, and what other tools write
pub lines_outside : after ("1#" ∷ "" ∷ " 1!" ∷ "1! " ∷ " #1" ∷ "$dumpvars" ∷ "$comment x $end" ∷ [])
    ≡ 10 ∷ 10 ∷ 10 ∷ 10 ∷ 10 ∷ 10 ∷ 10 ∷ []
unfolding reading
lines_outside = refl

-- a value line belongs to a time
pub value_first : number ("1!" ∷ "#0" ∷ []) ≡ 10
unfolding reading
value_first = refl

-- the last line has its LF too, a CR (13) or a tab (9) stands nowhere, and an empty text is outside
abbrev of_bytes : List ℕ → ℕ
of_bytes text = scan_number (scan_of text (bytes_of "RxDA") (bytes_of "RxDB"))

pub ends_of_lines : (of_bytes (dump [] ++ bytes_of "#0") ≡ 10)
    × (of_bytes (dump ("#0" ∷ []) ++ bytes_of "1!") ≡ 10)
    × (of_bytes (dump ("#0" ∷ []) ++ bytes_of "1") ≡ 10)
    × (of_bytes (dump ("#0" ∷ []) ++ bytes_of "#1" ++ 13 ∷ 10 ∷ []) ≡ 10)
    × (of_bytes (dump ("#0" ∷ []) ++ bytes_of "1!" ++ 13 ∷ 10 ∷ []) ≡ 10)
    × (of_bytes (dump [] ++ bytes_of "#0" ++ 13 ∷ []) ≡ 10)
    × (of_bytes (dump [] ++ bytes_of "#1" ++ 13 ∷ []) ≡ 10)
    × (of_bytes (dump ("#0" ∷ []) ++ bytes_of "1!" ++ 13 ∷ []) ≡ 10)
    × (of_bytes (dump ("#0" ∷ []) ++ bytes_of "1!" ++ 9 ∷ 10 ∷ []) ≡ 10)
    × (of_bytes (take 128 (dump [])) ≡ 10)
    × (of_bytes [] ≡ 10)
unfolding reading
ends_of_lines = (refl, refl, refl, refl, refl, refl, refl, refl, refl, refl, refl)

-- "11 a time not later than the one before", as numbers
pub times_late : (number ("#5" ∷ "#5" ∷ []) ≡ 11)
    × (number ("#5" ∷ "#4" ∷ []) ≡ 11)
    × (number ("#0" ∷ "#0" ∷ []) ≡ 11)
    × (number ("#10" ∷ "#9" ∷ []) ≡ 11)
    × (number ("#5" ∷ "1!" ∷ "#5" ∷ []) ≡ 11)
    × (number ("#5" ∷ "#5" ∷ "#6" ∷ []) ≡ 11)
    × (number ("#5" ∷ "#6" ∷ "#3" ∷ "#4" ∷ []) ≡ 11)
    × (number ("#0" ∷ "#5" ∷ "#6" ∷ []) ≡ 0)
    × (number ("#9" ∷ "#10" ∷ []) ≡ 0)
unfolding reading
times_late = (refl, refl, refl, refl, refl, refl, refl, refl, refl)

-- "Refusals, in this order: .. 10 .., 11 ..": over the whole text, whichever comes first in it
pub ten_before_eleven : (number ("#5" ∷ "#5" ∷ "x" ∷ []) ≡ 10)
    × (number ("#5" ∷ "#5" ∷ "#4000000001" ∷ []) ≡ 10)
    × (of_bytes (dump ("#5" ∷ "#5" ∷ []) ++ bytes_of "1!") ≡ 10)
unfolding reading
ten_before_eleven = (refl, refl, refl)

-- "Codes may be `#`, `$`, `0` or `1`: `10` is value 1 of code `0`", and a line that begins with `#` is a time
abbrev odd_codes : List ℕ
odd_codes =
    lines ("$var wire 1 # RxDA $end" ∷ "$var wire 1 0 RxDB $end" ∷ "$var wire 1 1 c $end" ∷ "$var wire 1 $ d $end" ∷ [])

abbrev odd_lines : List ℕ
odd_lines = lines ("#1" ∷ "1#" ∷ "10" ∷ "00" ∷ "01" ∷ "1$" ∷ "#20" ∷ [])

pub odd_codes_lem : (of_bytes (around odd_codes ++ odd_lines) ≡ 0)
    × (lines_read (λ (b : ℕ). true) started odd_lines
    ≡ Time 1 ∷ Value 35 true ∷ Value 48 true ∷ Value 48 false ∷ Value 49 false ∷ Value 36 true ∷ Time 20 ∷ [])
unfolding reading
odd_codes_lem = (refl, refl)

-- ---- the header ----

-- beside the wire `RxDA` with the code `!` another line, the caller naming the first wire twice
abbrev beside : List ℕ → ℕ
beside line =
    scan_number (scan_of (around (lines ("$var wire 1 ! RxDA $end" ∷ []) ++ line)) (bytes_of "RxDA") (bytes_of "RxDA"))

abbrev besides : List String → List ℕ
besides ls = map (λ (l : String). beside (lines (l ∷ []))) ls

abbrev wire : ℕ → List ℕ → List ℕ
wire code name = bytes_of "$var wire 1 " ++ code ∷ 32 ∷ name ++ bytes_of " $end" ++ 10 ∷ []

-- one wire is enough, and both names may be the same wire's; none is not
pub one_wire : (beside [] ≡ 0) × (scan_number (scan_of (around []) (bytes_of "RxDA") (bytes_of "RxDA")) ≡ 10)
unfolding reading
one_wire = (refl, refl)

-- "1 to 16 wires": fourteen and two, and one more
abbrev fourteen : List ℕ
fourteen =
    lines ("$var wire 1 a a $end" ∷ "$var wire 1 b b $end" ∷ "$var wire 1 c c $end" ∷ "$var wire 1 d d $end"
    ∷ "$var wire 1 e e $end" ∷ "$var wire 1 f f $end" ∷ "$var wire 1 g g $end" ∷ "$var wire 1 h h $end"
    ∷ "$var wire 1 i i $end" ∷ "$var wire 1 j j $end" ∷ "$var wire 1 k k $end" ∷ "$var wire 1 l l $end"
    ∷ "$var wire 1 m m $end" ∷ "$var wire 1 n n $end" ∷ [])

pub sixteen_wires : (of_bytes (around (fourteen ++ two_wires)) ≡ 0)
    × (of_bytes (around (fourteen ++ two_wires ++ wire 111 (111 ∷ []))) ≡ 10)
unfolding reading
sixteen_wires = (refl, refl)

-- "names of 1 to 32 characters", `$end` and `0` too
pub names_inside :
    besides ("$var wire 1 ~ x $end" ∷ "$var wire 1 ~ 12345678901234567890123456789012 $end"
    ∷ "$var wire 1 ~ $end $end" ∷ "$var wire 1 ~ 0 $end" ∷ "$var wire 1 ~ OP[3] $end" ∷ [])
    ≡ 0 ∷ 0 ∷ 0 ∷ 0 ∷ 0 ∷ []
unfolding reading
names_inside = refl

pub names_outside :
    besides ("$var wire 1 ~  $end" ∷ "$var wire 1 ~ $end"
    ∷ "$var wire 1 ~ 123456789012345678901234567890123 $end" ∷ "$var wire 1 ~ a b $end" ∷ [])
    ≡ 10 ∷ 10 ∷ 10 ∷ 10 ∷ []
unfolding reading
names_outside = refl

-- "one-character codes, ! to ~", and the characters of a name: 33 to 126
pub visible_codes : (beside (wire 126 (120 ∷ [])) ≡ 0)
    × (beside (wire 34 (120 ∷ [])) ≡ 0)
    × (beside (wire 32 (120 ∷ [])) ≡ 10)
    × (beside (wire 127 (120 ∷ [])) ≡ 10)
    × ((found_in (scan_of (around (wire 33 (120 ∷ []))) (120 ∷ []) (120 ∷ []))).code_a ≡ 33)
unfolding reading
visible_codes = (refl, refl, refl, refl, refl)

pub visible_names : (beside (wire 126 (33 ∷ [])) ≡ 0)
    × (beside (wire 126 (126 ∷ [])) ≡ 0)
    × (beside (wire 126 (32 ∷ [])) ≡ 10)
    × (beside (wire 126 (9 ∷ [])) ≡ 10)
    × (beside (wire 126 (120 ∷ 10 ∷ [])) ≡ 10)
    × (beside (wire 126 (127 ∷ [])) ≡ 10)
    × (beside (wire 126 (128 ∷ [])) ≡ 10)
unfolding reading
visible_names = (refl, refl, refl, refl, refl, refl, refl)

-- "each once": the code, and the name; a name that begins another is not that one
pub each_once :
    besides ("$var wire 1 ! x $end" ∷ "$var wire 1 ~ RxDA $end" ∷ "$var wire 1 ~ RxD $end"
    ∷ "$var wire 1 ~ RxDAB $end" ∷ "$var wire 1 ~ rxda $end" ∷ [])
    ≡ 10 ∷ 10 ∷ 0 ∷ 0 ∷ 0 ∷ []
unfolding reading
each_once = refl

-- the first and the third, and two of which none is named
pub each_once_apart : (of_bytes (around (two_wires ++ lines ("$var wire 1 ! x $end" ∷ []))) ≡ 10)
    × (of_bytes (around (two_wires ++ lines ("$var wire 1 ~ RxDA $end" ∷ []))) ≡ 10)
    × (of_bytes (around (two_wires ++ lines ("$var wire 1 x x $end" ∷ "$var wire 1 x y $end" ∷ []))) ≡ 10)
    × (of_bytes (around (two_wires ++ lines ("$var wire 1 x x $end" ∷ "$var wire 1 y x $end" ∷ []))) ≡ 10)
unfolding reading
each_once_apart = (refl, refl, refl, refl)

-- "a named wire missing", the first or the second
abbrev naming : String → String → ℕ
naming a b = scan_number (scan_of (dump ("#0" ∷ [])) (bytes_of a) (bytes_of b))

pub missing : (naming "RxDA" "RxDC" ≡ 10)
    × (naming "RxDC" "RxDB" ≡ 10)
    × (naming "RxD" "RxDB" ≡ 10)
    × (naming "RxDA1" "RxDB" ≡ 10)
    × (naming "" "RxDB" ≡ 10)
    × (naming "RxDB" "RxDB" ≡ 0)
unfolding reading
missing = (refl, refl, refl, refl, refl, refl)

-- no line is optional, and each is order 6's byte for byte
abbrev whole : List String → ℕ
whole ls = of_bytes (lines ls)

abbrev a_wire : String
a_wire = "$var wire 1 ! RxDA $end"

abbrev b_wire : String
b_wire = "$var wire 1 ~ RxDB $end"

abbrev opening : String → String → List String
opening first second = first ∷ second ∷ a_wire ∷ b_wire ∷ "$upscope $end" ∷ "$enddefinitions $end" ∷ []

abbrev closing : List String → List String
closing ls = "$timescale 1 ns $end" ∷ "$scope module duart $end" ∷ a_wire ∷ ls

pub other_words : (whole (opening "$timescale 1 ns $end" "$scope module duart $end") ≡ 0)
    × (whole (opening "$timescale 1ns $end" "$scope module duart $end") ≡ 10)
    × (whole (opening "$timescale 1 us $end" "$scope module duart $end") ≡ 10)
    × (whole (opening "$timescale 1 ns $end" "$scope module top $end") ≡ 10)
    × (whole ("$date today $end" ∷ opening "$timescale 1 ns $end" "$scope module duart $end") ≡ 10)
    × (whole (closing (b_wire ∷ "$upscope $end" ∷ "$enddefinitions $end" ∷ "#0" ∷ "1~" ∷ [])) ≡ 0)
    × (whole (closing (b_wire ∷ "$enddefinitions $end" ∷ "#0" ∷ [])) ≡ 10)
    × (whole (closing (b_wire ∷ "$upscope $end" ∷ "#0" ∷ [])) ≡ 10)
    × (whole (closing ("$var reg 1 ~ RxDB $end" ∷ "$upscope $end" ∷ "$enddefinitions $end" ∷ [])) ≡ 10)
    × (whole (closing ("$var wire 8 ~ RxDB $end" ∷ "$upscope $end" ∷ "$enddefinitions $end" ∷ [])) ≡ 10)
unfolding reading
other_words = (refl, refl, refl, refl, refl, refl, refl, refl, refl, refl)

-- ---- what is found ----

abbrev found : List String → Result Scanned Refusal
found body = scan_of (dump body) (bytes_of "RxDA") (bytes_of "RxDB")

-- the codes of the named wires, A's first; where the lines after the header begin; and the last time
pub found_whole : (found ("#271" ∷ "0!" ∷ "#4000000000" ∷ [])
    ≡ Ok (record { code_a = 33; code_b = 34; body = 129; times = record { last = Some 4000000000; late = false } }))
    × (drop 129 (dump ("#271" ∷ "0!" ∷ [])) ≡ lines ("#271" ∷ "0!" ∷ []))
unfolding reading
found_whole = (refl, refl)

pub found_exchanged : ((found_in (scan_of (dump []) (bytes_of "RxDB") (bytes_of "RxDA"))).code_a ≡ 34)
    × ((found_in (scan_of (dump []) (bytes_of "RxDB") (bytes_of "RxDA"))).code_b ≡ 33)
unfolding reading
found_exchanged = (refl, refl)

-- time 0 is a time; a text with none has none
pub last_times : ((found_in (found ("#0" ∷ []))).times ≡ record { last = Some 0; late = false })
    × ((found_in (found [])).times ≡ record { last = None; late = false })
unfolding reading
last_times = (refl, refl)
