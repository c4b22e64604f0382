-- The statements shut wrong receivers out. Each takes feeds as `fed_of` does, or shows a status as `status_of` does, but for one fault, and
-- each is refuted by computing what becomes of a few frames: `Delivers` is false of eleven, `ReadsBack` of two, `KeepsSound` of two.
-- Assumes nothing.
use Prim.Native.Nat.{ℕ, ◌≤◌}
use mathlib.Core.Path.{◌≡◌, refl, sym, ap}
use mathlib.Core.Bool.{Bool, true, false, true≢false}
use mathlib.Core.List.{List, [], ◌∷◌, ◌++◌}
use native.Mathlib.Omega.{arith}
use lib.ListN.{length, get_or, replicate}
use Rattle.format.specs.declared.format.Format.{Format}
use Rattle.format.specs.Pick.{pick}
use Rattle.character.specs.declared.character.Character.{Character}
use Rattle.character.specs.declared.character.Marks.{Marks}
use Rattle.character.specs.Character.{no_character, no_marks}
use Rattle.sampler_state.specs.State.{hunting, starting}
use Rattle.sampler.specs.Lines.{at16}
use Rattle.queue.specs.declared.queue.Queue.{Queue}
use Rattle.queue.specs.Queue.{empty_queue, waits_of, took_of}
use Rattle.receiver_state.specs.declared.arrivals.Receiver.{Receiver}
use Rattle.receiver_state.specs.Arrivals.{with_sampler, with_change, with_queue, fresh_receiver}
use Rattle.feed.specs.declared.feed.Effect.TheVariants.{NoEffect, Reset, ClearErrors, ClearBreakChange}
use Rattle.feed.specs.declared.feed.Enabling.TheVariants.{Stays, Enables, Disables}
use Rattle.receiver_status.specs.Status.{status_of}
use Rattle.receiver.specs.declared.receiver.Fed.{Fed}
use Rattle.feed.specs.declared.feed.Feed.{Feed}
use Rattle.feed.specs.declared.feed.Feed.TheVariants.{Nothing, Pulse, Command, Read, ChipReset}
use Rattle.receiver.specs.Delivery.{Fate, Step, Show, Delivers}
use Rattle.receiver.specs.Delivery.Fate.{Held}
use Rattle.receiver.specs.ReadBack.{pulses, sent_all, ReadsBack}
use Rattle.receiver.specs.Sound.{KeepsSound}
use Rattle.receiver.specs.Receiver.{unread, fed_of}
use Rattle.receiver.proofs.Computing.{computing}

-- what a feed leaves, with another queue
abbrev queue_instead : Fed → Queue → Fed
queue_instead d q = record { receiver = with_queue d.receiver q; byte = d.byte; fresh = d.fresh }

-- 8 data bits, no parity
abbrev eight : Format
eight = record { width = record { 0 = 8 }; parity = 2; odd = false }

-- it is enabled, a high, and then these bytes back to back
abbrev line : List ℕ → List Feed
line xs = Command NoEffect Enables ∷ Pulse true (at16 eight) ∷ sent_all eight 16 xs

-- ---- the waiting one kept, the arriving one dropped ----

-- "Overrun that keeps the waiting character and drops the arriving one."
unfoldable pub drops_arriving : Step
drops_arriving r Nothing = fed_of r Nothing
drops_arriving r (Pulse level f) = pick (waits_of r.queue) (queue_instead (fed_of r (Pulse level f)) r.queue) (fed_of r (Pulse level f))
drops_arriving r (Command e t) = fed_of r (Command e t)
drops_arriving r Read = fed_of r Read
drops_arriving r ChipReset = fed_of r ChipReset

-- the byte of the fourth
abbrev fourth : List (Character × Fate) → ℕ
fourth l = (get_or l 3 (no_character, Held)).0.byte

pub no_drops_arriving : Delivers drops_arriving status_of → ⊥
unfolding computing drops_arriving
no_drops_arriving h =
    let z : ◌≡◌ {A = ℕ} 5 4 = ap fourth (h fresh_receiver (line (1 ∷ 2 ∷ 3 ∷ 4 ∷ 5 ∷ []))).fates in
    omega arith

-- ---- the waiting one kept by a reset ----

-- "A receiver reset that keeps the waiting character."
unfoldable pub keeps_waiting : Step
keeps_waiting r Nothing = fed_of r Nothing
keeps_waiting r (Pulse level f) = fed_of r (Pulse level f)
keeps_waiting r (Command NoEffect t) = fed_of r (Command NoEffect t)
keeps_waiting r (Command Reset t) =
    pick (waits_of r.queue)
    (queue_instead (fed_of r (Command Reset t))
    (record { count = 1; first = r.queue.waiting; second = no_character; third = no_character; waiting = no_character }))
    (fed_of r (Command Reset t))
keeps_waiting r (Command ClearErrors t) = fed_of r (Command ClearErrors t)
keeps_waiting r (Command ClearBreakChange t) = fed_of r (Command ClearBreakChange t)
keeps_waiting r Read = fed_of r Read
keeps_waiting r ChipReset = fed_of r ChipReset

pub no_keeps_waiting : Delivers keeps_waiting status_of → ⊥
unfolding computing keeps_waiting
no_keeps_waiting h =
    let z : ◌≡◌ {A = ℕ} 0 1 = ap length (h fresh_receiver (line (1 ∷ 2 ∷ 3 ∷ 4 ∷ []) ++ (Command Reset Stays ∷ []))).fates in
    omega arith

-- ---- two taken by a read ----

-- "A read takes the oldest": this one answers it, and takes the next one too.
unfoldable pub reads_two : Step
reads_two r Nothing = fed_of r Nothing
reads_two r (Pulse level f) = fed_of r (Pulse level f)
reads_two r (Command e t) = fed_of r (Command e t)
reads_two r Read = queue_instead (fed_of r Read) (took_of (fed_of r Read).receiver.queue)
reads_two r ChipReset = fed_of r ChipReset

pub no_reads_two : Delivers reads_two status_of → ⊥
unfolding computing reads_two
no_reads_two h =
    let z : ◌≡◌ {A = ℕ} 2 1 = ap length (h fresh_receiver (line (1 ∷ 2 ∷ []) ++ (Read ∷ []))).fates in
    omega arith

-- ---- the queue emptied by a disable ----

-- "Disable drops the character being put together and ends the wait for a break's end, no more.": this one empties the queue too.
unfoldable pub disable_empties : Step
disable_empties r Nothing = fed_of r Nothing
disable_empties r (Pulse level f) = fed_of r (Pulse level f)
disable_empties r (Command e Stays) = fed_of r (Command e Stays)
disable_empties r (Command e Enables) = fed_of r (Command e Enables)
disable_empties r (Command e Disables) = queue_instead (fed_of r (Command e Disables)) empty_queue
disable_empties r Read = fed_of r Read
disable_empties r ChipReset = fed_of r ChipReset

pub no_disable_empties : Delivers disable_empties status_of → ⊥
unfolding computing disable_empties
no_disable_empties h =
    let z : ◌≡◌ {A = ℕ} 1 0 = ap length (h fresh_receiver (line (1 ∷ []) ++ (Command NoEffect Disables ∷ []))).fates in
    omega arith

-- ---- nothing kept ----

-- a queue that is empty after every feed
unfoldable pub keeps_nothing : Step
keeps_nothing r e = queue_instead (fed_of r e) empty_queue

pub no_keeps_nothing : Delivers keeps_nothing status_of → ⊥
unfolding computing keeps_nothing
no_keeps_nothing h =
    let z : ◌≡◌ {A = ℕ} 1 0 = ap length (h fresh_receiver (line (1 ∷ []))).fates in
    omega arith

-- ---- a character taken by a status read ----

-- "A status read that takes a character.": to the receiver a status read is no feed at all
unfoldable pub status_takes : Step
status_takes r Nothing = fed_of r Read
status_takes r (Pulse level f) = fed_of r (Pulse level f)
status_takes r (Command e t) = fed_of r (Command e t)
status_takes r Read = fed_of r Read
status_takes r ChipReset = fed_of r ChipReset

pub no_status_takes : Delivers status_takes status_of → ⊥
unfolding computing status_takes
no_status_takes h =
    let z : ◌≡◌ {A = ℕ} 1 0 = ap length (h fresh_receiver (line (1 ∷ []) ++ (Nothing ∷ []))).fates in
    omega arith

-- ---- a ready bit that is never set ----

abbrev never_ready : Show
never_ready r block = record { marks = (status_of r block).marks; overrun = r.overrun; full = (status_of r block).full; ready = false }

pub no_never_ready : Delivers fed_of never_ready → ⊥
unfolding computing
no_never_ready h = true≢false ((h fresh_receiver (line (1 ∷ []))).same 200)

-- ---- order 1: reads that never say fresh, and reads that always do ----

abbrev says_fresh : Bool → Step
says_fresh x r e = record { receiver = (fed_of r e).receiver; byte = (fed_of r e).byte; fresh = x }

pub no_never_fresh : Delivers (says_fresh false) status_of → ⊥
unfolding computing
no_never_fresh h =
    let z : ◌≡◌ {A = ℕ} 1 0 = ap length (h fresh_receiver (line (1 ∷ []) ++ (Read ∷ []))).fates in
    omega arith

pub no_always_fresh : Delivers (says_fresh true) status_of → ⊥
unfolding computing
no_always_fresh h = true≢false ((h fresh_receiver []).same 0)

-- ---- a receiver that does nothing ----

abbrev idles : Step
idles r e = unread r

pub no_idles : Delivers idles status_of → ⊥
unfolding computing
no_idles h =
    let z : ◌≡◌ {A = ℕ} 1 0 = ap length (h fresh_receiver (line (1 ∷ []))).fates in
    omega arith

-- an idle, empty receiver
abbrev ready : Receiver
ready = with_sampler fresh_receiver (hunting true)

pub no_idles_read : ReadsBack idles status_of → ⊥
unfolding computing
no_idles_read h =
    let z : ◌≡◌ {A = ℕ} 0 1 = ap length (h eight 16 65 ready (omega arith) (omega arith) (record { hunts = refl; high = refl }) refl).held in
    omega arith

-- ---- break change set by every feed ----

abbrev changes_always : Step
changes_always r e =
    record { receiver = with_change (fed_of r e).receiver true; byte = (fed_of r e).byte; fresh = (fed_of r e).fresh }

pub no_changes_always_read : ReadsBack changes_always status_of → ⊥
unfolding computing
no_changes_always_read h =
    let z : true ≡ false = (h eight 16 65 ready (omega arith) (omega arith) (record { hunts = refl; high = refl }) refl).change in
    true≢false z

-- ---- more than four counted ----

abbrev counted : ℕ → Queue → Queue
counted n q = record { count = n; first = q.first; second = q.second; third = q.third; waiting = q.waiting }

-- four held are counted as five; the places, and so what is read, are as they should be
unfoldable pub overcounts : Step
overcounts r e = pick (waits_of (fed_of r e).receiver.queue) (queue_instead (fed_of r e) (counted 5 (fed_of r e).receiver.queue)) (fed_of r e)

pub no_overcounts : Delivers overcounts status_of → ⊥
unfolding computing overcounts
no_overcounts h =
    let z : 5 ≤ 4 = (h fresh_receiver (line (1 ∷ 2 ∷ 3 ∷ 4 ∷ []))).four 1000 in
    omega arith

-- four held, and a start that is confirmed on the next low
abbrev about_to_start : Receiver
about_to_start = with_sampler (with_queue fresh_receiver (counted 4 empty_queue)) (starting (at16 eight) (record { 0 = 0 }))

pub no_overcounts_sound : KeepsSound overcounts → ⊥
unfolding computing overcounts
no_overcounts_sound h = true≢false (sym (h about_to_start Nothing (record { ranges = refl; waiting = refl }) refl).ranges)

-- the waiting place in use while a confirmed start is under way
pub no_drops_arriving_sound : KeepsSound drops_arriving → ⊥
unfolding computing drops_arriving
no_drops_arriving_sound h = true≢false (sym (h about_to_start (Pulse false (at16 eight)) (record { ranges = refl; waiting = refl }) refl).waiting)

-- ---- a status that hides ----

abbrev hides_overrun : Show
hides_overrun r block = record { marks = (status_of r block).marks; overrun = false; full = (status_of r block).full; ready = (status_of r block).ready }

pub no_hides_overrun : Delivers fed_of hides_overrun → ⊥
unfolding computing
no_hides_overrun h = true≢false (sym ((h fresh_receiver (line (1 ∷ 2 ∷ 3 ∷ 4 ∷ 5 ∷ []))).overrun false))

abbrev hides_marks : Show
hides_marks r block = record { marks = no_marks; overrun = r.overrun; full = (status_of r block).full; ready = (status_of r block).ready }

-- shown by a break: a high, and then 160 lows
pub no_hides_marks : Delivers fed_of hides_marks → ⊥
unfolding computing
no_hides_marks h =
    let z : false ≡ true = ap (λ (m : Marks). m.broken) (h fresh_receiver (line [] ++ pulses (at16 eight) (replicate 160 false))).marks in
    true≢false (sym z)
