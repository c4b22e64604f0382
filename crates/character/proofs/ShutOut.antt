-- Wrong answers, each shut out by a definition: a routine that gave it would not meet its contract. Assumes nothing.
use mathlib.Core.Path.{◌≡◌, ap}
use mathlib.Core.Bool.{true, false, ◌&&◌, ◌||◌, true≢false, false≢true}
use native.Mathlib.Omega.{arith}
use Rattle.character.specs.declared.character.Character.{Character}
use Rattle.character.specs.declared.character.Marks.{Marks}
use Rattle.character.specs.Character.{no_marks, or_marks, unmarked_of, no_character, break_character}
use Rattle.character.proofs.Laws.{Marked}

abbrev framed : Marks
framed = record { broken = false; framing = true; parity = false }

no_no_marks_has_parity : true ≡ no_marks.parity → ⊥
no_no_marks_has_parity = true≢false

-- "the marks, each bit ORed"
no_sum_needs_both : ((a b : Marks) → (a.framing && b.framing) ≡ (or_marks a b).framing) → ⊥
no_sum_needs_both h = false≢true (h framed no_marks)

-- "4 clear .. the top character's marks"
no_cleared_keeps_framing : ((c : Character) → c.marks.framing ≡ (unmarked_of c).marks.framing) → ⊥
no_cleared_keeps_framing h = true≢false (h (record { byte = 65; marks = framed }))

no_unused_place_marked : true ≡ no_character.marks.parity → ⊥
no_unused_place_marked = true≢false

-- "a zero with the break mark alone"
no_break_is255 : 255 ≡ break_character.byte → ⊥
no_break_is255 = omega arith

-- ---- wrong marks, each shut out by document 01's words ----
-- Made in the definition and in the code together, they would still be refused.

-- a character with all three
abbrev every : Character
every = record { byte = 65; marks = record { broken = true; framing = true; parity = true } }

-- "the marks, each bit ORed": the parity mark of the one that joins is lost
no_parity_not_summed :
    Marked no_marks
    (λ (a b : Marks). record { broken = a.broken || b.broken; framing = a.framing || b.framing; parity = a.parity })
    unmarked_of break_character
    → ⊥
no_parity_not_summed h = false≢true (h.parity no_marks every.marks)

-- "4 clear .. the top character's marks": the break mark stays
no_cleared_keeps_break :
    Marked no_marks or_marks
    (λ (c : Character). record { byte = c.byte; marks = record { broken = c.marks.broken; framing = false; parity = false } })
    break_character
    → ⊥
no_cleared_keeps_break h = true≢false (ap (λ (c : Character). c.marks.broken) (h.clear every))

-- "a zero with the break mark alone": its stop is low, and it has the framing mark too
no_break_has_framing :
    Marked no_marks or_marks unmarked_of (record { byte = 0; marks = record { broken = true; framing = true; parity = false } }) → ⊥
no_break_has_framing h = true≢false (ap (λ (c : Character). c.marks.framing) h.alone)
