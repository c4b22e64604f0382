-- Calls and the single events that they stand for: of one call by what is proved of a poll (`Told`) and of a run, by induction on its ticks; of a list of
-- calls by induction, with the events of the first before those of the rest. Assumes nothing.
use Prim.Native.Nat.{ℕ, zero, suc}
use mathlib.Core.Path.{◌≡◌, refl, sym, ◌∙◌, ap}
use mathlib.Core.Bool.{Bool, true, false, ◌&&◌, true≢false}
use mathlib.Core.List.{List, [], ◌∷◌, ◌++◌, map, map-append, append-nil, append_assoc}
use lib.Dec.{eqb}
use lib.ListN.{take, replicate}
use borrow.Author.Tests.{eqb-true}
use Rattle.format.specs.Pick.{pick}
use Rattle.format.proofs.Laws.Pick.{pick_all}
use Rattle.character.specs.declared.character.Character.{Character}
use Rattle.events.specs.declared.events.Event.{Event}
use Rattle.events.specs.declared.events.Event.TheVariants.{ChipReset, Read, Write, Acknowledge, Pins, Tick}
use Rattle.chip_device.specs.declared.device.Device.{Device}
use Rattle.chip_device.specs.Device.{device_lines}
use Rattle.chip_step.specs.Chip.{step_of}
use Rattle.chip_laws.specs.Sound.{after}
use Rattle.chip_laws.specs.Reset.{reset_at}
use Rattle.chip_ticks.specs.declared.ticks.Spent.{Spent}
use Rattle.chip_ticks.specs.declared.until_irq.Ran.{Ran}
use Rattle.chip_ticks.specs.Ticks.{spent_of}
use Rattle.chip_ticks.specs.Run.{run_refusal, run_of}
use Rattle.records.specs.declared.records.EventRecord.{EventRecord}
use Rattle.records.specs.Records.{event_of}
use Rattle.poll.specs.Step.{single_of}
use Rattle.poll.specs.Poll.{seen_in, polled_of, answers_after}
use Rattle.poll.proofs.Told.{state_after, answers_to, one_by_one, written}
use Rattle.demands.specs.Chip.{Channel, register_of, and_then, chip_of, shows}
use Rattle.demands.specs.Delivery.{marks_shown, read_at, reads_buffer, read_from}
use Rattle.demands.proofs.Laws.Run.{run_append}
use Rattle.demands.proofs.Delivery.{demand_3}
use Rattle.demands_calls.specs.Calls.{Call, Board, called, stands_for, fresh_byte, fresh_bytes, bytes_of, after_calls, events_of, bytes_read, Calls}
use Rattle.demands_calls.specs.Calls.Call.{one, polls, runs}

-- the board that is proved
abbrev pub board : Board
board = record { step = step_of; poll = polled_of; written = answers_after; run = run_of }

-- ---- the state after one call ----

records_on : (d : Device) (es : List EventRecord) → state_after single_of d es ≡ after step_of d (map event_of es)
unfolding state_after after single_of
records_on d [] = refl
records_on d (e ∷ es) = records_on (step_of d (event_of e)).state es

spent_on : (watch : Bool) (n : ℕ) (d : Device)
    → (spent_of watch n d).state ≡ after step_of d (replicate (spent_of watch n d).ticks Tick)
unfolding spent_of after
spent_on watch zero d = refl
spent_on watch (suc n) d =
    pick_all (λ (s : Spent). s.state ≡ after step_of d (replicate s.ticks Tick)) (watch && (device_lines d).irq) _ _ refl
    (spent_on watch n (step_of d Tick).state)

run_on : (d : Device) (budget : ℕ) → (run_of d budget).state ≡ after step_of d (replicate (run_of d budget).ticks Tick)
unfolding run_of after
run_on d budget =
    pick_all (λ (r : Ran). r.state ≡ after step_of d (replicate r.ticks Tick)) (eqb (run_refusal d budget) 0) _ _
    (spent_on true budget d) refl

call_on : (d : Device) (c : Call) → called board d c ≡ after step_of d (stands_for board d c)
unfolding after
call_on d (one e) = refl
call_on d (polls es xs) = one_by_one d es xs ∙ records_on d (take (polled_of d es xs).count es)
call_on d (runs budget) = run_on d budget

calls_on : (d : Device) (cs : List Call) → after_calls board d cs ≡ after step_of d (events_of board d cs)
unfolding after_calls events_of after
calls_on d [] = refl
calls_on d (c ∷ cs) =
    calls_on (called board d c) cs
    ∙ ap (λ (x : Device). after step_of x (events_of board (called board d c) cs)) (call_on d c)
    ∙ sym (run_append d (stands_for board d c) (events_of board (called board d c) cs))

-- ---- the bytes read, along single events ----

unfoldable bytes_from : Channel → Device → List Event → List ℕ
bytes_from ch d [] = []
bytes_from ch d (e ∷ es) = fresh_byte ch e (step_of d e).fresh (step_of d e).byte ++ bytes_from ch (step_of d e).state es

bytes_append : (ch : Channel) (d : Device) (es fs : List Event)
    → bytes_from ch d (es ++ fs) ≡ bytes_from ch d es ++ bytes_from ch (after step_of d es) fs
unfolding bytes_from after
bytes_append ch d [] fs = refl
bytes_append ch d (e ∷ es) fs =
    let first = fresh_byte ch e (step_of d e).fresh (step_of d e).byte in
    ap (λ (xs : List ℕ). first ++ xs) (bytes_append ch (step_of d e).state es fs)
    ∙ sym (append_assoc first (bytes_from ch (step_of d e).state es) _)

-- the event that reads a buffer
reads_is : (ch : Channel) (e : Event) → reads_buffer ch e ≡ true → e ≡ Read (register_of ch 3)
reads_is ch ChipReset h = absurd (true≢false (sym h))
reads_is ch (Read n) h = ap Read (eqb-true n (register_of ch 3) h)
reads_is ch (Write n byte) h = absurd (true≢false (sym h))
reads_is ch Acknowledge h = absurd (true≢false (sym h))
reads_is ch (Pins levels) h = absurd (true≢false (sym h))
reads_is ch Tick h = absurd (true≢false (sym h))

byte_of : (fresh : Bool) (x : Character)
    → map (λ (y : Character). y.byte) (pick fresh (x ∷ []) []) ≡ pick (true && fresh) (x.byte ∷ []) []
unfolding pick
byte_of true x = refl
byte_of false x = refl

-- what demand 3 counts as read at an event is the byte of an answer that says fresh
read_at_lem : (levels : ℕ) (ch : Channel) (before : List Event) (e : Event) (d : Device) → d ≡ after step_of (reset_at levels) before
    → map (λ (x : Character). x.byte) (pick (reads_buffer ch e) (read_at (chip_of step_of) levels ch before) [])
    ≡ fresh_byte ch e (step_of d e).fresh (step_of d e).byte
unfolding chip_of pick
read_at_lem levels ch before e d at = go (reads_buffer ch e) refl
  where
    go : (t : Bool) → reads_buffer ch e ≡ t
        → map (λ (x : Character). x.byte) (pick t (read_at (chip_of step_of) levels ch before) [])
        ≡ pick (t && (step_of d e).fresh) ((step_of d e).byte ∷ []) []
    go true h =
        byte_of (chip_of step_of levels before (Read (register_of ch 3))).fresh
        (record { byte = shows (chip_of step_of) levels before (register_of ch 3); marks = marks_shown (chip_of step_of) levels ch before })
        ∙ ap (λ (x : Device). pick (step_of x (Read (register_of ch 3))).fresh ((step_of x (Read (register_of ch 3))).byte ∷ []) []) (sym at)
        ∙ ap (λ (f : Event). pick (step_of d f).fresh ((step_of d f).byte ∷ []) []) (sym (reads_is ch e h))
    go false h = refl

read_from_lem : (levels : ℕ) (ch : Channel) (before es : List Event) (d : Device) → d ≡ after step_of (reset_at levels) before
    → map (λ (x : Character). x.byte) (read_from (chip_of step_of) levels ch before es) ≡ bytes_from ch d es
unfolding read_from bytes_from after
read_from_lem levels ch before [] d at = refl
read_from_lem levels ch before (e ∷ es) d at =
    map-append (λ (x : Character). x.byte) (pick (reads_buffer ch e) (read_at (chip_of step_of) levels ch before) []) _
    ∙ ap (λ (xs : List ℕ). xs ++ map (λ (x : Character). x.byte) (read_from (chip_of step_of) levels ch (and_then before e) es))
    (read_at_lem levels ch before e d at)
    ∙ ap (λ (xs : List ℕ). fresh_byte ch e (step_of d e).fresh (step_of d e).byte ++ xs)
    (read_from_lem levels ch (and_then before e) es (step_of d e).state next)
  where
    next : (step_of d e).state ≡ after step_of (reset_at levels) (and_then before e)
    next =
        ap (λ (x : Device). after step_of x (e ∷ [])) at
        ∙ sym (run_append (reset_at levels) before (e ∷ []))

-- ---- the bytes of calls ----

records_read : (ch : Channel) (d : Device) (es : List EventRecord)
    → fresh_bytes ch es (map seen_in (answers_to single_of d es)) ≡ bytes_from ch d (map event_of es)
unfolding answers_to single_of bytes_from
records_read ch d [] = refl
records_read ch d (e ∷ es) =
    ap (λ (xs : List ℕ). fresh_byte ch (event_of e) (step_of d (event_of e)).fresh (step_of d (event_of e)).byte ++ xs)
    (records_read ch (step_of d (event_of e)).state es)

ticks_read : (ch : Channel) (n : ℕ) (d : Device) → bytes_from ch d (replicate n Tick) ≡ []
unfolding bytes_from pick
ticks_read ch zero d = refl
ticks_read ch (suc n) d = ticks_read ch n (step_of d Tick).state

call_reads : (ch : Channel) (d : Device) (c : Call) → bytes_of board ch d c ≡ bytes_from ch d (stands_for board d c)
unfolding bytes_from
call_reads ch d (one e) = sym (append-nil _)
call_reads ch d (polls es xs) =
    let k = (polled_of d es xs).count in
    ap (fresh_bytes ch (take k es)) (written d es xs) ∙ records_read ch d (take k es)
call_reads ch d (runs budget) = sym (ticks_read ch (run_of d budget).ticks d)

calls_read : (ch : Channel) (d : Device) (cs : List Call) → bytes_read board ch d cs ≡ bytes_from ch d (events_of board d cs)
unfolding bytes_read events_of bytes_from
calls_read ch d [] = refl
calls_read ch d (c ∷ cs) =
    let next = called board d c in
    ap (λ (xs : List ℕ). xs ++ bytes_read board ch next cs) (call_reads ch d c)
    ∙ ap (λ (xs : List ℕ). bytes_from ch d (stands_for board d c) ++ xs) (calls_read ch next cs)
    ∙ ap (λ (x : Device). bytes_from ch d (stands_for board d c) ++ bytes_from ch x (events_of board next cs)) (call_on d c)
    ∙ sym (bytes_append ch d (stands_for board d c) (events_of board next cs))

pub calls : Calls board
unfolding after
calls =
    record {
      states = λ levels cs. calls_on (reset_at levels) cs;
      reads = λ levels ch cs.
          calls_read ch (reset_at levels) cs
          ∙ sym (read_from_lem levels ch [] (events_of board (reset_at levels) cs) (reset_at levels) refl);
      delivers = λ levels ch cs. demand_3 levels ch (events_of board (reset_at levels) cs);
    }
