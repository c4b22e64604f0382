-- A chip as its program meets it, and where the statements look. Assumes nothing.
use Rattle.std.specs.Prelude.{ℕ, ◌+◌, Bool, true, ◌&&◌, List, [], ◌∷◌, ◌++◌}
use Rattle.byte_bits.specs.Bytes.{has_bit}
use Rattle.events.specs.declared.events.Event.{Event}
use Rattle.events.specs.declared.events.Event.TheVariants.{Read}
use Rattle.chip_answers.specs.declared.answers.Lines.{Lines}
use Rattle.chip_laws.specs.Table.{Step}
use Rattle.chip_laws.specs.Sound.{after}
use Rattle.chip_laws.specs.Reset.{reset_at}
use Rattle.chip_laws.specs.Lists.{Seen, seen_of}

-- What it answers to an event: the number, the data byte and the lines, after a chip reset with these levels on its
-- pins and then these events.
abbrev pub Chip : Type 0
Chip = ℕ → List Event → Event → Seen

-- a way to answer one event, as a chip
unfoldable pub chip_of : Step → Chip
chip_of step levels es e = seen_of (step (after step (reset_at levels) es) e)

-- one event more
abbrev pub and_then : List Event → Event → List Event
and_then es e = es ++ (e ∷ [])

-- what is told of some events, each in its turn
unfoldable pub over : {X : Type 0} → (X → Event → X) → X → List Event → X
over then x [] = x
over then x (e ∷ es) = over then (then x e) es

-- all of them are of a kind (the statements' own; the transmitter's laws have one for its inputs)
abbrev pub each_of : (Event → Bool) → List Event → Bool
each_of is [] = true
each_of is (e ∷ es) = is e && each_of is es

-- ---- the channels ----

pub data Channel : Type 0 where
  A B : Channel

abbrev pub of_channel : {X : Type 0} → Channel → X → X → X
of_channel A a b = a
of_channel B a b = b

-- "8-11 as 0-3 for channel B"
abbrev pub register_of : Channel → ℕ → ℕ
register_of A n = n
register_of B n = 8 + n

-- ---- where the statements look ----

-- what a read of a register would answer after these events
abbrev pub shows : Chip → ℕ → List Event → ℕ → ℕ
shows c levels es n = (c levels es (Read n)).byte

-- a bit of a channel's status register
abbrev pub status_bit : Chip → ℕ → Channel → List Event → ℕ → Bool
status_bit c levels ch es k = has_bit (shows c levels es (register_of ch 1)) k

-- the lines after these events: an answer to a status read, which changes nothing, has them too
abbrev pub lines_after : Chip → ℕ → List Event → Lines
lines_after c levels es = (c levels es (Read 1)).lines
