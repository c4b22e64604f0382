-- One name for what a proof by computing unfolds: what is read of a text. It says nothing by itself. And texts to read:
-- a header around wires, and lines. Its words are spelled here anew, and so stand beside those of the definitions.
use Prim.Native.Nat.{ℕ}
use Prim.Native.String.{String}
use mathlib.Core.Bool.{Bool, true}
use mathlib.Core.List.{List, [], ◌∷◌, ◌++◌}
use Rattle.format.specs.Pick.{pick}
use Rattle.text.specs.Bytes.{bytes_of}
use Rattle.vcd_text.specs.Header as Written
use Rattle.vcd_lines.specs.Body.{begun, first_digit, next_digit, must_end, coded, taken_of, said_of, read_all, lines_read}
use Rattle.vcd_read.specs.Wires.{starts, name_of, is_wire, wires_of, wires_end, clash_of, twice_of, has_code, code_named}
use Rattle.vcd_read.specs.Scan.{times_said, checked_by, checked_of, named_header, header_read, judged, scan_with, scan_of, scan_number, found_in}

-- lines, each ended by LF
unfoldable pub lines : List String → List ℕ
lines [] = []
lines (l ∷ ls) = bytes_of l ++ 10 ∷ lines ls

unfoldable pub reading : Bool
unfolding lines pick bytes_of Written.line_of begun first_digit next_digit must_end coded taken_of said_of read_all lines_read
    starts name_of is_wire wires_of wires_end clash_of twice_of has_code code_named times_said checked_by checked_of named_header
    header_read judged scan_with scan_of scan_number found_in
reading = true

-- order 6's header around the lines of wires
abbrev pub around : List ℕ → List ℕ
around wires =
    lines ("$timescale 1 ns $end" ∷ "$scope module duart $end" ∷ []) ++ wires
    ++ lines ("$upscope $end" ∷ "$enddefinitions $end" ∷ [])

-- "the real chip's two RxD lines": codes 33 and 34
abbrev pub two_wires : List ℕ
two_wires = lines ("$var wire 1 ! RxDA $end" ∷ "$var wire 1 \" RxDB $end" ∷ [])

abbrev pub dump : List String → List ℕ
dump body = around two_wires ++ lines body
