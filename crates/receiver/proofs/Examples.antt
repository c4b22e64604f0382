-- What the theorems assume is met by receivers that come about, and cases 7, 8 and 9 of document 01 as one receiver sees them: each is
-- computed. Assumes nothing.
use Prim.Native.Nat.{ℕ}
use mathlib.Core.Path.{◌≡◌, refl}
use mathlib.Core.Bool.{Bool, true, false}
use mathlib.Core.List.{List, [], ◌∷◌, ◌++◌, map}
use lib.ListN.{replicate}
use Rattle.format.specs.declared.format.Format.{Format}
use Rattle.format.specs.Format.{format_of}
use Rattle.format.specs.Pick.{pick}
use Rattle.character.specs.declared.character.Character.{Character}
use Rattle.character.specs.Character.{no_marks}
use Rattle.sampler_hunting.specs.Hunting.{low_at, hunted, looked_again}
use Rattle.sampler.specs.Lines.{at16}
use Rattle.sampler.specs.Sampler.{sample_of}
use Rattle.queue.specs.Queue.{held_of, waits_of}
use Rattle.receiver_state.specs.declared.arrivals.Receiver.{Receiver}
use Rattle.receiver_state.specs.Arrivals.{fresh_receiver, started_of, arrived_of, pulsed_of}
use Rattle.feed.specs.declared.feed.Effect.TheVariants.{NoEffect, Reset}
use Rattle.feed.specs.declared.feed.Enabling.TheVariants.{Stays, Enables}
use Rattle.receiver_commands.specs.Commands.{effect_of, enabling_of}
use Rattle.receiver_status.specs.Status.{shown_marks, status_of}
use Rattle.feed.specs.declared.feed.Feed.{Feed}
use Rattle.feed.specs.declared.feed.Feed.TheVariants.{Pulse, Command, Read}
use Rattle.receiver.specs.Delivery.{after, reads}
use Rattle.receiver.specs.ReadBack.{pulses, sent_all, Idle}
use Rattle.receiver.specs.Receiver.{fed_of}
use Rattle.receiver.specs.Sound.{waiting_sound}
use Rattle.receiver.proofs.Computing.{computing}

-- MR1 19: 8 data bits, no parity
abbrev eight : Format
eight = format_of 19

-- a receiver that is enabled and has seen a high, and then some feeds
abbrev fed : List Feed → Receiver
fed es = after fed_of fresh_receiver (Command NoEffect Enables ∷ Pulse true (at16 eight) ∷ es)

abbrev byte_of : Character → ℕ
byte_of c = c.byte

-- ---- what is assumed is met ----

-- the read-back's receiver: idle, and empty
idle_met : Idle (fed []).sampler × (held_of (fed []).queue ≡ [])
unfolding held_of after fed_of effect_of enabling_of pulsed_of started_of arrived_of sample_of hunted pick
idle_met = (record { hunts = refl; high = refl }, refl)

-- ---- the cases ----

abbrev four : List Feed
four = sent_all eight 16 (1 ∷ 2 ∷ 3 ∷ 4 ∷ [])

abbrev lows : ℕ → List Feed
lows n = pulses (at16 eight) (replicate n false)

-- SR bits 4, 1 and 0
abbrev bits : Receiver → List Bool
bits r = (status_of r false).overrun ∷ (status_of r false).full ∷ (status_of r false).ready ∷ []

-- "Receiver only, 1, 2, 3, 4 arrive: SR 3; next start: SR 19; 5 arrives: reads 1, 2, 3, 5." The start counts when it is confirmed, at
-- p+8. One waits until then, and no confirmed start is under way.
record Case7 : Type 0 where
  arrived : bits (fed four) ≡ false ∷ true ∷ true ∷ []
  unmarked : shown_marks (fed four) false ≡ no_marks
  waits : waits_of (fed four).queue ≡ true
  sound : waiting_sound (fed four) ≡ true
  before : bits (fed (four ++ lows 8)) ≡ false ∷ true ∷ true ∷ []
  started : bits (fed (four ++ lows 9)) ≡ true ∷ true ∷ true ∷ []
  read : map byte_of (reads fed_of status_of (fed four) (sent_all eight 16 (5 ∷ []) ++ (Read ∷ Read ∷ Read ∷ Read ∷ Read ∷ []))) ≡ 1 ∷ 2 ∷ 3 ∷ 5 ∷ []

case_7 : Case7
unfolding computing
case_7 = record { arrived = refl; unmarked = refl; waits = refl; sound = refl; before = refl; started = refl; read = refl }

-- "Four arrive unread, receiver reset: SR 0, read 0."
abbrev reset : Receiver
reset = fed (four ++ (Command Reset Stays ∷ []))

case_8 : (bits reset ≡ false ∷ false ∷ false ∷ []) × (held_of reset.queue ≡ []) × ((fed_of reset Read).byte ≡ 0)
unfolding computing
case_8 = (refl, refl, refl)

-- "Low 8 pulses, high at p+8: nothing. Low at p+8: a start.": phase 2 is a confirmed start under way
case_9 : (fed (lows 8 ++ (Pulse true (at16 eight) ∷ [])) ≡ fed []) × ((fed (lows 9)).sampler.phase ≡ 2)
unfolding after fed_of effect_of enabling_of pulsed_of started_of arrived_of sample_of hunted low_at looked_again pick
case_9 = (refl, refl)
