-- Wrong answers, each shut out by a definition: a routine that gave it would not meet its contract. Assumes nothing.
use mathlib.Core.Path.{◌≡◌}
use mathlib.Core.Bool.{false, false≢true}
use Rattle.front_side.specs.declared.side.Side.{Side}
use Rattle.front_side.specs.Side.{fresh_side}
use Rattle.front_reads.specs.Reads.{mode_read}

-- "Any access at MR1 moves the pointer to MR2, where it stays."
no_mode_read_stays : ((s : Side) → false ≡ (mode_read s).side.moved) → ⊥
no_mode_read_stays h = false≢true (h fresh_side)
