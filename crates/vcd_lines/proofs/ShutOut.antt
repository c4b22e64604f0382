-- Wrong answers to a byte, shut out by the definitions: a routine that gave one would not meet its contract. Assumes nothing.
use Prim.Native.Nat.{ℕ}
use mathlib.Core.Path.{◌≡◌, ap}
use mathlib.Core.Bool.{Bool, true, false, true≢false, false≢true}
use mathlib.Core.List.{List, ◌∷◌, ◌++◌}
use native.Mathlib.Omega.{arith}
use Rattle.format.specs.Pick.{pick}
use Rattle.text.specs.Bytes.{bytes_of}
use Rattle.vcd_lines.specs.declared.body.Place.TheVariants.{LineStart, Hash}
use Rattle.vcd_lines.specs.declared.body.Reading.{Reading}
use Rattle.vcd_lines.specs.declared.body.Said.TheVariants.{NoLine, TimeLine, ValueLine}
use Rattle.vcd_lines.specs.Body.{started, begun, first_digit, next_digit, must_end, coded, taken_of, said_of, read_all}

-- what is known after some bytes
abbrev after : List ℕ → Reading
after bs = read_all (λ (b : ℕ). true) started bs

-- one that takes no byte, and one that never says a line
no_byte_lost : ((r : Reading) (b : ℕ) (known : Bool) → r ≡ taken_of r b known) → ⊥
unfolding taken_of begun pick
no_byte_lost h =
    let place : LineStart ≡ Hash = ap (λ (r : Reading). r.place) (h started 35 true) in
    cc

no_never_says : ((r : Reading) (b : ℕ) → NoLine ≡ said_of r b) → ⊥
unfolding read_all taken_of begun first_digit next_digit must_end coded said_of bytes_of pick
no_never_says h =
    let said : NoLine ≡ TimeLine 5 = h (after (bytes_of "#5")) 10 in
    let z : ◌≡◌ {A = ℕ} 0 1 = cc in
    omega arith

-- the level turned: `1!` is a high
no_levels_turned : ValueLine 33 false ≡ said_of (after (bytes_of "#5" ++ 10 ∷ bytes_of "1!")) 10 → ⊥
unfolding read_all taken_of begun first_digit next_digit must_end coded said_of bytes_of pick
no_levels_turned h =
    let said : ValueLine 33 false ≡ ValueLine 33 true = h in
    let z : false ≡ true = cc in
    false≢true z

-- the code of the line before: `0!`, `1"`
no_code_before : ValueLine 33 true ≡ said_of (after (bytes_of "#5" ++ 10 ∷ bytes_of "0!" ++ 10 ∷ bytes_of "1\"")) 10 → ⊥
unfolding read_all taken_of begun first_digit next_digit must_end coded said_of bytes_of pick
no_code_before h =
    let said : ValueLine 33 true ≡ ValueLine 34 true = h in
    let z : ◌≡◌ {A = ℕ} 33 34 = cc in
    omega arith

-- one that starts as if a time had come: a value line before the first time would pass
no_starts_timed : true ≡ started.timed → ⊥
no_starts_timed = true≢false
