-- The check of the lines goes by what is read of them. Assumes nothing.
use Prim.Native.Nat.{ℕ}
use mathlib.Core.Path.{◌≡◌, refl, ◌∙◌}
use mathlib.Core.Bool.{Bool}
use mathlib.Core.List.{List, [], ◌∷◌, ◌++◌}
use Rattle.vcd_text.specs.Lines.{Line}
use Rattle.vcd_read.specs.declared.checking.Checked.{Checked}
use Rattle.vcd_read.specs.declared.checking.Times.{Times}
use Rattle.vcd_lines.specs.declared.body.Said.{Said}
use Rattle.vcd_lines.specs.declared.body.Said.TheVariants.{NoLine, TimeLine, ValueLine}
use Rattle.vcd_lines.specs.Body.{taken_of, said_of, line_of, read_all, lines_read}
use Rattle.vcd_read.specs.Scan.{times_said, times_from, checked_by, checked_of}

times_said_lem : (x : Times) (s : Said) (ls : List Line) → times_from x (line_of s ++ ls) ≡ times_from (times_said x s) ls
unfolding times_from times_said
times_said_lem x NoLine ls = refl
times_said_lem x (TimeLine t) ls = refl
times_said_lem x (ValueLine c v) ls = refl

pub checked_reads : (known : ℕ → Bool) (x : Checked) (bs : List ℕ)
    → checked_of known x bs ≡ record { reading = read_all known x.reading bs; times = times_from x.times (lines_read known x.reading bs) }
unfolding checked_of checked_by read_all lines_read times_from
checked_reads known x [] = refl
checked_reads known x (b ∷ bs) =
    checked_reads known (checked_by x b (known b)) bs
    ∙ rw (times_said_lem x.times (said_of x.reading b) (lines_read known (taken_of x.reading b (known b)) bs))
