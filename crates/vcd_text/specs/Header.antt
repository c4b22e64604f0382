-- The header. Order 6: "Lines, each ended by LF: `$timescale 1 ns $end`, `$scope module duart $end`, eleven as `$var
-- wire 1 ! TxDA $end` with codes ! to + in that order, `$upscope $end`, `$enddefinitions $end`". Assumes nothing.
use Rattle.std.specs.Prelude.{ℕ, suc, List, [], ◌∷◌, ◌++◌}
use Prim.Native.String.{String}
use Rattle.text.specs.Bytes.{bytes_of}

-- "each ended by LF"
unfoldable pub line_of : String → List ℕ
line_of text = bytes_of text ++ 10 ∷ []

pub record Wire : Type 0 where
  pub code : ℕ
  pub name : List ℕ

-- "`$var wire 1 ! TxDA $end`"; 32 is a space
unfoldable pub wire_line : Wire → List ℕ
wire_line w = bytes_of "$var wire 1 " ++ w.code ∷ 32 ∷ w.name ++ line_of " $end"

unfoldable pub wire_lines : List Wire → List ℕ
wire_lines [] = []
wire_lines (w ∷ ws) = wire_line w ++ wire_lines ws

unfoldable pub header_of : List Wire → List ℕ
header_of ws =
    line_of "$timescale 1 ns $end" ++ line_of "$scope module duart $end" ++ wire_lines ws ++ line_of "$upscope $end"
    ++ line_of "$enddefinitions $end"

-- wires of these names, their codes one after the other
unfoldable pub wires_from : ℕ → List String → List Wire
wires_from code [] = []
wires_from code (name ∷ names) = record { code = code; name = bytes_of name } ∷ wires_from (suc code) names

-- "TxDA, TxDB, IRQ as line level (asserted is 0) and OP0 to OP7", "with codes ! to + in that order"; 33 is !
unfoldable pub chip_wires : List Wire
chip_wires =
    wires_from 33 ("TxDA" ∷ "TxDB" ∷ "IRQ" ∷ "OP0" ∷ "OP1" ∷ "OP2" ∷ "OP3" ∷ "OP4" ∷ "OP5" ∷ "OP6" ∷ "OP7" ∷ [])
