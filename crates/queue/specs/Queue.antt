-- The queue of three and the waiting place. What is held is a list, the oldest first, of at most four: the first three
-- are the queue, the fourth is the one that waits. The layout in places is a second definition of the same, with the
-- same names; the laws in proofs/Laws/Queue show that each of its rules does to its list what the list's rule does.
-- Assumes nothing.
use Rattle.std.specs.Prelude.{◌-◌, Bool, List, [], ◌∷◌, ◌++◌, eqb, leb, length, take, drop}
use Rattle.format.specs.Pick.{pick}
use Rattle.character.specs.declared.character.Character.{Character}
use Rattle.character.specs.declared.character.Marks.{Marks}
use Rattle.character.specs.Character.{no_marks, no_character, unmarked_of}
use Rattle.queue.specs.declared.queue.Queue.{Queue}

-- ---- the list ----

-- "An arrival goes to the queue of three, or waits when that is full."
abbrev pub put : List Character → Character → List Character
put h c = h ++ (c ∷ [])

-- whether one waits
abbrev pub waits : List Character → Bool
waits h = leb 4 (length h)

-- "A confirmed start while one waits removes the waiting one"
abbrev pub without_waiting : List Character → List Character
without_waiting h = take 3 h

-- "A read takes the oldest and moves the waiting one up"; of an empty queue it "takes nothing"
abbrev pub took : List Character → List Character
took h = drop 1 h

-- the oldest, if there is one, becomes this one
abbrev pub replaced : List Character → Character → List Character
replaced [] c = []
replaced (x ∷ h) c = c ∷ h

-- "SR 7-5 show the oldest's marks, 0 if none"
abbrev pub top_marks : List Character → Marks
top_marks [] = no_marks
top_marks (c ∷ h) = c.marks

-- "the top character's marks" cleared
abbrev pub top_unmarked : List Character → List Character
top_unmarked [] = []
top_unmarked (c ∷ h) = unmarked_of c ∷ h

-- ---- the layout ----

-- the list that a layout means
unfoldable pub held_of : Queue → List Character
held_of q = take q.count (q.first ∷ q.second ∷ q.third ∷ q.waiting ∷ [])

abbrev pub empty_queue : Queue
empty_queue = record { count = 0; first = no_character; second = no_character; third = no_character; waiting = no_character }

abbrev pub is_empty_of : Queue → Bool
is_empty_of q = eqb q.count 0

-- "FFULL: three in the queue."
abbrev pub is_full_of : Queue → Bool
is_full_of q = leb 3 q.count

-- the oldest, where one is held
abbrev pub oldest_of : Queue → Character
oldest_of q = q.first

abbrev pub waits_of : Queue → Bool
waits_of q = leb 4 q.count

-- Four are never held when one arrives (proofs/Laws/Waiting); if they were, the arriving one would take the waiting
-- one's place.
unfoldable pub put_of : Queue → Character → Queue
put_of q c =
    pick (eqb q.count 0)
    (record { count = 1; first = c; second = q.second; third = q.third; waiting = q.waiting })
    (pick (eqb q.count 1)
    (record { count = 2; first = q.first; second = c; third = q.third; waiting = q.waiting })
    (pick (eqb q.count 2)
    (record { count = 3; first = q.first; second = q.second; third = c; waiting = q.waiting })
    (record { count = 4; first = q.first; second = q.second; third = q.third; waiting = c })))

unfoldable pub without_waiting_of : Queue → Queue
without_waiting_of q =
    pick (waits_of q)
    (record { count = 3; first = q.first; second = q.second; third = q.third; waiting = q.waiting })
    q

unfoldable pub took_of : Queue → Queue
took_of q =
    pick (eqb q.count 0) q
    (record { count = q.count - 1; first = q.second; second = q.third; third = q.waiting; waiting = q.waiting })

abbrev pub replaced_of : Queue → Character → Queue
replaced_of q c = record { count = q.count; first = c; second = q.second; third = q.third; waiting = q.waiting }
