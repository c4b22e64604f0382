-- The lines after the header. Order 6: "then `#` with the time and lines such as `1!`, in the same order". The values
-- of a time are a list of levels, one for each wire, in the order of the codes. Assumes nothing.
use Rattle.std.specs.Prelude.{ℕ, suc, Bool, not, List, [], ◌∷◌, ◌++◌}
use Rattle.format.specs.Pick.{pick}
use Rattle.vcd_text.specs.Time.{time_of}
use Rattle.vcd_text.specs.Header.{header_of, chip_wires}
use Rattle.vcd_text.specs.Lines.{line_text}
use Rattle.vcd_text.specs.Lines.Line.{Time, Value}

-- the line of tick n's time, and that of a value
abbrev pub time_line : ℕ → List ℕ
time_line n = line_text (Time (time_of n))

abbrev pub value_line : ℕ → Bool → List ℕ
value_line code level = line_text (Value code level)

abbrev pub differ : Bool → Bool → Bool
differ u v = pick u (not v) v

-- The values of a time, "in the same order", "written where they differ from those written before". Before time 0
-- none is written, so that all are: "all values at time 0".
unfoldable pub value_lines : ℕ → List Bool → List Bool → List ℕ
value_lines code before [] = []
value_lines code [] (v ∷ vs) = value_line code v ++ value_lines (suc code) [] vs
value_lines code (u ∷ us) (v ∷ vs) = pick (differ u v) (value_line code v) [] ++ value_lines (suc code) us vs

-- "then only times with changes": a time with no value to write is left out
unfoldable pub at_time : ℕ → List ℕ → List ℕ
at_time n [] = []
at_time n (x ∷ xs) = time_line n ++ x ∷ xs

-- the values at tick n's time and at those of the ticks after it, those written before it being the first list
unfoldable pub waves_text : ℕ → List Bool → List (List Bool) → List ℕ
waves_text n before [] = []
waves_text n before (vs ∷ later) = at_time n (value_lines 33 before vs) ++ waves_text (suc n) vs later

-- the whole text: the header, and the values at time 0 and at each tick
unfoldable pub dump_text : List (List Bool) → List ℕ
dump_text waves = header_of chip_wires ++ waves_text 0 [] waves
