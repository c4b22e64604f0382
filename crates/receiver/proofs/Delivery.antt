-- Demand 3 for one receiver: feed by feed the ledger and the receiver go in step. Both have the same sampler, the ledger tells what was
-- read and what the queue holds, and its overrun is the receiver's; there is room for every arrival. Assumes nothing.
use Prim.Native.Nat.{◌≤◌}
use mathlib.Core.Path.{◌≡◌, refl, sym, ◌∙◌}
use mathlib.Core.Bool.{Bool, true, false, ◌||◌, or-false}
use mathlib.Core.List.{List, [], ◌∷◌, ◌++◌, map, append-nil, append_assoc, map-append}
use native.Mathlib.Omega.{arith}
use lib.Dec.{ltb}
use lib.ListN.{length, take}
use borrow.Author.Tests.{le-ltb}
use Rattle.format.specs.Pick.{pick}
use Rattle.format.proofs.Laws.Pick.{pick_all}
use Rattle.character.specs.declared.character.Character.{Character}
use Rattle.std.specs.Prelude.{Option, None, Some, option_to_list}
use Rattle.sampler_hunting.specs.declared.hunting.Sampled.{Sampled}
use Rattle.sampler.specs.Lines.{Line, hears, arrivals}
use Rattle.sampler.specs.Sampler.{sample_of}
use Rattle.sampler.proofs.Laws.Room.{most_four, grown, Roomy, room_sample}
use Rattle.queue.specs.declared.queue.Queue.{Queue}
use Rattle.queue.specs.Queue.{held_of, took, is_empty_of, top_marks}
use Rattle.queue.proofs.Laws.Queue.{held_length, held_put, held_without_waiting, at_least_held, held_took, held_empty, is_empty_held, oldest_held, held_marks, held_unmarked}
use Rattle.receiver_state.specs.declared.arrivals.Receiver.{Receiver}
use Rattle.receiver_state.specs.Arrivals.{answered_of, fresh_receiver, oldest_marks, heard_of, started_of, entered_of, arrived_of, pulsed_of}
use Rattle.feed.specs.declared.feed.Effect.{Effect}
use Rattle.feed.specs.declared.feed.Effect.TheVariants.{NoEffect, Reset, ClearErrors, ClearBreakChange}
use Rattle.feed.specs.declared.feed.Enabling.{Enabling}
use Rattle.feed.specs.declared.feed.Enabling.TheVariants.{Stays, Enables, Disables}
use Rattle.receiver_commands.specs.Commands.{effect_of, enabling_of}
use Rattle.receiver_status.specs.Status.{shown_marks, status_of}
use Rattle.receiver.specs.declared.receiver.Fed.{Fed}
use Rattle.feed.specs.declared.feed.Feed.{Feed}
use Rattle.feed.specs.declared.feed.Feed.TheVariants.{Nothing, Pulse, Command, Read, ChipReset}
use Rattle.receiver.specs.Delivery.{Entry, starts, enters, overruns, Ledger, opened, pulse_written, effect_written, enabling_written, written, ledger_from, ledger, as_arrived, after, given, reads, lines_of, effect_lines, enabling_lines, lines_over, Delivers}
use Rattle.receiver.specs.Delivery.Entry.{entry}
use Rattle.receiver.specs.Delivery.Fate.{Held, WasRead, Overrun}
use Rattle.receiver.specs.Receiver.{oldest_read, read_of, fed_of}
use Rattle.receiver.proofs.Laws.Ledger.{Tells, tells_fates, tells_marks, tells_entered, tells_read, tells_dropped, tells_cleared, tells_overrun, overruns_grow, overruns_entered, arrived_meets, arrived_dropped, arrived_cleared}
use Rattle.receiver.proofs.Laws.Ledger.Tells.{nothing}
use Rattle.receiver.proofs.Laws.Waiting.{Room, answered_sampler, started_count, fed_room}

-- ---- the oldest ----

shown_held : (r : Receiver) → shown_marks r false ≡ top_marks (held_of r.queue)
unfolding shown_marks oldest_marks pick
shown_held r = held_marks r.queue

-- what a read gives is the oldest itself, byte and marks
-- order 1: "fresh exactly when RxRDY was set before it", of any receiver
pub read_fresh : (r : Receiver) → (fed_of r Read).fresh ≡ (status_of r false).ready
unfolding fed_of read_of pick
read_fresh r = go (is_empty_of r.queue) refl
  where
    go : (t : Bool) → is_empty_of r.queue ≡ t → (fed_of r Read).fresh ≡ (status_of r false).ready
    go true e = rw e
    go false e = rw e

pub given_held : (r : Receiver) → given fed_of status_of r Read ≡ take 1 (held_of r.queue)
unfolding given fed_of read_of shown_marks oldest_marks pick
given_held r = go (is_empty_of r.queue) refl
  where
    go : (t : Bool) → is_empty_of r.queue ≡ t → given fed_of status_of r Read ≡ take 1 (held_of r.queue)
    go true e = rw (e, (is_empty_held r.queue).0 e)
    go false e = rw (e, oldest_held r.queue e)

pub read_held : (r : Receiver) → r.queue.count ≤ 4 → held_of (read_of r).receiver.queue ≡ took (held_of r.queue)
unfolding read_of oldest_read pick
read_held r h = go (is_empty_of r.queue) refl
  where
    go : (t : Bool) → is_empty_of r.queue ≡ t → held_of (read_of r).receiver.queue ≡ took (held_of r.queue)
    go true e = rw (e, (is_empty_held r.queue).0 e)
    go false e = rw e (held_took r.queue h)

-- ---- in step ----

-- the ledger and the receiver after the same feeds, of which `rs` were read
record InStep (l : Ledger) (r : Receiver) (rs : List Character) : Type 0 where
  pub sampler : l.sampler ≡ r.sampler
  pub tells : Tells l.entries rs (held_of r.queue)
  pub overran : l.overran ≡ r.overrun

pub four_counted : (r : Receiver) → Room r → r.queue.count ≤ 4
four_counted r h = omega (arith, most_four r.sampler)

four_held : (q : Queue) → q.count ≤ 4 → length (held_of q) ≤ 4
four_held q h = rw (held_length q h) h

tells_started : (l : List Entry) (r : Receiver) (rs : List Character) (t : Bool) → r.queue.count ≤ 4 → Tells l rs (held_of r.queue)
    → Tells (starts t l) rs (held_of (started_of r t).queue)
unfolding started_of pick
tells_started l r rs true h p = rw (held_without_waiting r.queue h) (tells_overrun 3 (four_held r.queue h) p)
tells_started l r rs false h p = p

tells_came : (l : List Entry) (r : Receiver) (rs : List Character) (o : Option Character) → grown o r.queue.count ≤ 4 → Tells l rs (held_of r.queue)
    → Tells (enters o l) rs (held_of (arrived_of r o).queue)
unfolding arrived_of entered_of
tells_came l r rs None h p = p
tells_came l r rs (Some c) h p = rw (held_put r.queue c (omega arith)) (tells_entered c p)

overran_started : (l : List Entry) (r : Receiver) (rs : List Character) (t : Bool) → r.queue.count ≤ 4 → Tells l rs (held_of r.queue)
    → (r.overrun || ltb (overruns l) (overruns (starts t l))) ≡ (started_of r t).overrun
unfolding started_of pick
overran_started l r rs true h p = rw (overruns_grow (four_held r.queue h) p, ← at_least_held r.queue 4 h)
overran_started l r rs false h p = rw (le-ltb (overruns l) (overruns l) (omega arith), or-false)

overruns_came : (o : Option Character) (l : List Entry) → overruns (enters o l) ≡ overruns l
overruns_came None l = refl
overruns_came (Some c) l = overruns_entered l c

overran_came : (r : Receiver) (o : Option Character) → (arrived_of r o).overrun ≡ r.overrun
unfolding arrived_of entered_of
overran_came r None = refl
overran_came r (Some c) = refl

in_step_answered : (l : Ledger) (r : Receiver) (rs : List Character) (m : Sampled) → r.queue.count ≤ 4 → Roomy r.queue.count m
    → InStep l r rs → InStep (pulse_written l m) (answered_of r m) rs
in_step_answered l r rs m four p h =
    let n : Receiver = heard_of r m.next m.change in
    let room : grown m.came (started_of n m.started).queue.count ≤ 4 = rw started_count (omega (arith, most_four m.next)) in
    record {
      sampler = sym (answered_sampler r m);
      tells = tells_came _ (started_of n m.started) rs m.came room (tells_started l.entries n rs m.started four h.tells);
      overran = rw (h.overran, overruns_came, overran_came) (overran_started l.entries n rs m.started four h.tells);
    }

in_step_effect : (l : Ledger) (r : Receiver) (rs : List Character) (e : Effect) → InStep l r rs → InStep (effect_written l e) (effect_of r e) rs
unfolding effect_of hears
in_step_effect l r rs NoEffect h = h
in_step_effect l r rs Reset h = record { sampler = refl; tells = rw held_empty (tells_dropped h.tells); overran = h.overran }
in_step_effect l r rs ClearErrors h = record { sampler = h.sampler; tells = rw held_unmarked (tells_cleared h.tells); overran = refl }
in_step_effect l r rs ClearBreakChange h = record { sampler = h.sampler; tells = h.tells; overran = h.overran }

in_step_enabling : (l : Ledger) (r : Receiver) (rs : List Character) (t : Enabling) → InStep l r rs → InStep (enabling_written l t) (enabling_of r t) rs
unfolding enabling_of hears
in_step_enabling l r rs Stays h = h
in_step_enabling l r rs Enables h = record { sampler = refl; tells = h.tells; overran = h.overran }
in_step_enabling l r rs Disables h = record { sampler = refl; tells = h.tells; overran = h.overran }

in_step_read : (l : Ledger) (r : Receiver) (rs : List Character) → r.queue.count ≤ 4 → InStep l r rs
    → InStep (written l Read) (read_of r).receiver (rs ++ given fed_of status_of r Read)
unfolding written read_of oldest_read
in_step_read l r rs four h =
    record {
      sampler = h.sampler ∙ pick_all (λ (d : Fed). r.sampler ≡ d.receiver.sampler) (is_empty_of r.queue) _ _ refl refl;
      tells = rw (given_held r, read_held r four) (tells_read h.tells);
      overran = h.overran ∙ pick_all (λ (d : Fed). r.overrun ≡ d.receiver.overrun) (is_empty_of r.queue) _ _ refl refl;
    }

in_step_fed : (l : Ledger) (r : Receiver) (rs : List Character) (e : Feed) → Room r → InStep l r rs
    → InStep (written l e) (fed_of r e).receiver (rs ++ given fed_of status_of r e)
unfolding written fed_of given hears pulsed_of
in_step_fed l r rs Nothing p h = rw append-nil h
in_step_fed l r rs (Pulse level f) p h =
    rw (append-nil, h.sampler)
    (in_step_answered l r rs (sample_of r.sampler level f) (four_counted r p) (room_sample r.queue.count r.sampler level f p) h)
in_step_fed l r rs (Command e t) p h = rw append-nil (in_step_enabling (effect_written l e) (effect_of r e) rs t (in_step_effect l r rs e h))
in_step_fed l r rs Read p h = in_step_read l r rs (four_counted r p) h
in_step_fed l r rs ChipReset p h = rw append-nil (record { sampler = refl; tells = rw held_empty (tells_dropped h.tells); overran = refl })

in_step_after : (l : Ledger) (r : Receiver) (rs : List Character) (es : List Feed) → Room r → InStep l r rs
    → InStep (ledger_from l es) (after fed_of r es) (rs ++ reads fed_of status_of r es)
unfolding ledger_from after reads
in_step_after l r rs [] p h = rw append-nil h
in_step_after l r rs (e ∷ es) p h =
    rw (← append_assoc) (in_step_after (written l e) (fed_of r e).receiver (rs ++ given fed_of status_of r e) es (fed_room r e p) (in_step_fed l r rs e p h))

room_after : (r : Receiver) (es : List Feed) → Room r → Room (after fed_of r es)
unfolding after
room_after r [] p = p
room_after r (e ∷ es) p = room_after (fed_of r e).receiver es (fed_room r e p)

-- ---- the characters that arrived ----

all_effect : (l : Ledger) (e : Effect) (xs : List Line) → map as_arrived l.entries ++ arrivals l.sampler (effect_lines e ++ xs)
    ≡ map as_arrived (effect_written l e).entries ++ arrivals (effect_written l e).sampler xs
unfolding arrivals hears
all_effect l NoEffect xs = refl
all_effect l Reset xs = rw (arrived_dropped l.entries)
all_effect l ClearErrors xs = rw (arrived_cleared l.entries)
all_effect l ClearBreakChange xs = refl

all_enabling : (l : Ledger) (t : Enabling) (xs : List Line) → map as_arrived l.entries ++ arrivals l.sampler (enabling_lines t ++ xs)
    ≡ map as_arrived (enabling_written l t).entries ++ arrivals (enabling_written l t).sampler xs
unfolding arrivals hears
all_enabling l Stays xs = refl
all_enabling l Enables xs = refl
all_enabling l Disables xs = refl

all_started : (t : Bool) (l : List Entry) → map as_arrived (starts t l) ≡ map as_arrived l
all_started true l = arrived_meets 3 Overrun l
all_started false l = refl

all_came : (o : Option Character) (l : List Entry) → map as_arrived (enters o l) ≡ map as_arrived l ++ option_to_list o
all_came None l = sym (append-nil (map as_arrived l))
all_came (Some c) l = map-append as_arrived l (entry c false Held ∷ [])

all_fed : (l : Ledger) (e : Feed) (xs : List Line) → map as_arrived l.entries ++ arrivals l.sampler (lines_of e ++ xs)
    ≡ map as_arrived (written l e).entries ++ arrivals (written l e).sampler xs
unfolding written arrivals hears
all_fed l Nothing xs = refl
all_fed l (Pulse level f) xs = rw (all_came, all_started, append_assoc)
all_fed l (Command e t) xs = rw append_assoc (all_effect l e (enabling_lines t ++ xs) ∙ all_enabling (effect_written l e) t xs)
all_fed l Read xs = rw (arrived_meets 0 WasRead l.entries)
all_fed l ChipReset xs = rw (arrived_dropped l.entries)

all_after : (l : Ledger) (es : List Feed) → map as_arrived l.entries ++ arrivals l.sampler (lines_over es)
    ≡ map as_arrived (ledger_from l es).entries
unfolding ledger_from lines_over arrivals
all_after l [] = append-nil _
all_after l (e ∷ es) = all_fed l e (lines_over es) ∙ all_after (written l e) es

-- after a chip reset
in_step : (es : List Feed) → InStep (ledger es) (after fed_of fresh_receiver es) (reads fed_of status_of fresh_receiver es)
in_step es = in_step_after opened fresh_receiver [] es (omega arith) (record { sampler = refl; tells = rw held_empty nothing; overran = refl })

pub same_sampler : (es : List Feed) → (ledger es).sampler ≡ (after fed_of fresh_receiver es).sampler
same_sampler es = (in_step es).sampler

pub delivery : Delivers fed_of status_of
unfolding fed_of
delivery r es =
    let h = in_step es in
    record {
      all = sym (all_after opened es);
      fates = tells_fates h.tells;
      same = λ k. read_fresh (after fed_of fresh_receiver (take k es));
      four = λ k. four_counted (after fed_of fresh_receiver (take k es)) (room_after fresh_receiver (take k es) (omega arith));
      overrun = λ block. sym h.overran;
      marks = shown_held (after fed_of fresh_receiver es) ∙ sym (tells_marks h.tells);
    }
