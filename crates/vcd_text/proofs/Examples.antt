-- Order 6's own numbers, and those of its readings. Each is computed. Assumes nothing.
use mathlib.Core.Path.{◌≡◌, refl}
use mathlib.Core.Bool.{true}
use mathlib.Core.List.{[], ◌∷◌, ◌++◌}
use lib.ListN.{length, replicate}
use Rattle.format.specs.Pick.{pick}
use Rattle.format.specs.Digits.{digit_of}
use Rattle.text.specs.Bytes.{bytes_of}
use Rattle.text.specs.Decimal.{decimal_of}
use Rattle.vcd_text.specs.Time.{time_of}
use Rattle.vcd_text.specs.Header.{line_of, wire_line, wire_lines, header_of, wires_from, chip_wires}
use Rattle.vcd_text.specs.Changes.{value_lines, at_time, waves_text, dump_text}
use Rattle.vcd_text.specs.Lines.{line_text}

-- ticks 1 to 4, and the last that a list can have
first_times : time_of 1 ∷ time_of 2 ∷ time_of 3 ∷ time_of 4 ∷ [] ≡ 271 ∷ 542 ∷ 813 ∷ 1085 ∷ []
first_times = refl

last_time : time_of 1000000 ≡ 271267361
last_time = refl

-- "eleven as `$var wire 1 ! TxDA $end` with codes ! to + in that order"
wires : wire_lines chip_wires
    ≡ line_of "$var wire 1 ! TxDA $end" ++ line_of "$var wire 1 \" TxDB $end" ++ line_of "$var wire 1 # IRQ $end" ++ line_of "$var wire 1 $ OP0 $end"
    ++ line_of "$var wire 1 % OP1 $end" ++ line_of "$var wire 1 & OP2 $end" ++ line_of "$var wire 1 ' OP3 $end" ++ line_of "$var wire 1 ( OP4 $end"
    ++ line_of "$var wire 1 ) OP5 $end" ++ line_of "$var wire 1 * OP6 $end" ++ line_of "$var wire 1 + OP7 $end"
unfolding bytes_of line_of wire_line wire_lines wires_from chip_wires
wires = refl

eleven : length chip_wires ≡ 11
unfolding wires_from chip_wires
eleven = refl

-- the lines before `#0` are 336 bytes, the shortest text is 372
pub header_length : length (header_of chip_wires) ≡ 336
unfolding bytes_of line_of wire_line wire_lines wires_from chip_wires header_of
header_length = refl

shortest : length (dump_text (replicate 11 true ∷ [])) ≡ 372
unfolding bytes_of line_of wire_line wire_lines wires_from chip_wires header_of digit_of decimal_of pick line_text value_lines at_time waves_text dump_text
shortest = refl
