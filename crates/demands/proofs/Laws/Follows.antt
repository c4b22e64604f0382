-- A receiver's last byte read, block sums and break change follow the rules of the statement over any list of events, for one event changes each as
-- its rule says, by what the front hands on and by the ledger of the events before it. Assumes nothing.
use Prim.Native.Nat.{ℕ}
use mathlib.Core.Path.{◌≡◌, refl, sym, ◌∙◌, ap}
use mathlib.Core.Bool.{Bool, true, false, ◌&&◌, ◌||◌}
use mathlib.Core.List.{List, [], ◌∷◌, ◌++◌, append-nil, append_assoc}
use lib.Dec.{eqb}
use Rattle.format.specs.Pick.{pick}
use Rattle.character.specs.Character.{no_marks, or_marks}
use Rattle.queue.specs.declared.queue.Queue.{Queue}
use Rattle.queue.specs.Queue.{held_of, is_empty_of}
use Rattle.queue.proofs.Laws.Queue.{is_empty_held, oldest_held}
use Rattle.receiver_state.specs.declared.arrivals.Receiver.{Receiver}
use Rattle.receiver_state.specs.Arrivals as Arrivals
use Rattle.receiver_status.specs.Status.{shown_marks}
use Rattle.feed.specs.declared.feed.Feed.{Feed}
use Rattle.receiver.specs.Receiver.{read_of, fed_of}
use Rattle.receiver.specs.Delivery.{Ledger, opened, written, oldest_known}
use Rattle.receiver.proofs.Delivery.{delivery}
use Rattle.front.specs.declared.front.Front.{Front}
use Rattle.events.specs.declared.events.Event.{Event}
use Rattle.chip_step.specs.Chip.{step_of}
use Rattle.chip_laws.specs.Reset.{reset_at}
use Rattle.chip_laws.specs.Sound.{after}
use Rattle.demands.specs.Chip.{Channel, register_of, and_then, chip_of, shows, status_bit}
use Rattle.demands.specs.Chip.Channel.{A, B}
use Rattle.demands.specs.Clocks.{front_after}
use Rattle.demands.specs.Delivery.{lines_at, fate_of, heard_all, ledger_from, ledger, reads_buffer, read_from, held}
use Rattle.demands.specs.Received.{command_of, is_chip_reset, last_from, oldest_at, became, sums_from, changes, change_from}
use Rattle.demands.proofs.Laws.Run.{run_at, run_then, run_sound, receiver_at, buffer_byte}
use Rattle.demands.proofs.Laws.Looks.{chip, ready_bit}
use Rattle.demands.proofs.Laws.Feeds.{hands_to, hands}
use Rattle.demands.proofs.Laws.Lines.{lines_handed, ledger_event}
use Rattle.demands.proofs.Laws.Buffer.{held_queue}
use Rattle.demands.proofs.Laws.Oldest.{is_nil, none_at}
use Rattle.demands.proofs.Laws.Clearing.{reset_handed, sums_handed, change_handed}
use Rattle.demands.proofs.Laws.Sums.{last_fed, sums_fed, change_fed}
use Rattle.demands.proofs.Delivery.{read_handed, receiver_then, feeds_after, receiver_after_lem, ledger_after, run_sampler, demand_3}

-- a channel's receiver after some events
abbrev pub receiver_after : Channel → ℕ → List Event → Receiver
receiver_after ch levels es = receiver_at ch (run_at levels es)

-- ---- the last byte read ----

pub shows_buffer : (levels : ℕ) (ch : Channel) (es : List Event)
    → shows chip levels es (register_of ch 3) ≡ (read_of (receiver_after ch levels es)).byte
unfolding chip_of
shows_buffer levels ch es = buffer_byte ch (run_at levels es) (run_sound levels es)

-- one event more
last_then : (levels : ℕ) (ch : Channel) (es : List Event) (e : Event)
    → pick (is_chip_reset e) 0
    (pick (reads_buffer ch e && status_bit chip levels ch es 0) (shows chip levels es (register_of ch 3)) (receiver_after ch levels es).last)
    ≡ (receiver_after ch levels (and_then es e)).last
last_then levels ch es e =
    let f : Front = front_after levels es in
    rw (
      receiver_then ch levels es e,
      last_fed (receiver_after ch levels es) (hands_to ch f e),
      reset_handed ch f e,
      read_handed ch f e,
      ready_bit levels ch es,
      shows_buffer levels ch es,
    )

last_from_lem : (levels : ℕ) (ch : Channel) (before es : List Event)
    → last_from chip levels ch (receiver_after ch levels before).last before es ≡ (receiver_at ch (after step_of (run_at levels before) es)).last
unfolding last_from after
last_from_lem levels ch before [] = refl
last_from_lem levels ch before (e ∷ es) =
    rw (last_then levels ch before e) (last_from_lem levels ch (and_then before e) es ∙ rw (run_then (reset_at levels) before e))

pub last_after : (levels : ℕ) (ch : Channel) (es : List Event) → last_from chip levels ch 0 [] es ≡ (receiver_after ch levels es).last
unfolding after
last_after levels A es = last_from_lem levels A [] es
last_after levels B es = last_from_lem levels B [] es

-- ---- the ledger and the receiver, side by side ----

-- one event more
pub ledger_append : (ch : Channel) (levels : ℕ) (l : Ledger) (before es : List Event) (e : Event)
    → ledger_from ch levels l before (and_then es e)
    ≡ heard_all (fate_of ch (ledger_from ch levels l before es) e) (lines_at ch levels (before ++ es) e)
unfolding ledger_from
ledger_append ch levels l before [] e = rw (append-nil before)
ledger_append ch levels l before (x ∷ es) e = ledger_append ch levels (heard_all (fate_of ch l x) (lines_at ch levels before x)) (and_then before x) es e ∙ rw (append_assoc before (x ∷ []) es)

ledger_then : (levels : ℕ) (ch : Channel) (es : List Event) (e : Event)
    → ledger ch levels (and_then es e) ≡ written (ledger ch levels es) (hands_to ch (front_after levels es) e)
ledger_then levels ch es e =
    ledger_append ch levels opened [] es e
    ∙ ledger_event ch levels (ledger ch levels es) es e
    ∙ ap (λ (x : Feed). written (ledger ch levels es) x) (hands ch (front_after levels es) e)

nil_empty : (q : Queue) → is_nil (held_of q) ≡ is_empty_of q
nil_empty q = go (is_empty_of q) refl
  where
    go : (t : Bool) → is_empty_of q ≡ t → is_nil (held_of q) ≡ t
    go true e = rw ((is_empty_held q).0 e)
    go false e = rw (oldest_held q e)

-- none is held in the ledger where the queue is empty, by demand 3
none_held : (levels : ℕ) (ch : Channel) (es : List Event)
    → eqb (oldest_at 0 (ledger ch levels es).entries) 0 ≡ is_empty_of (receiver_after ch levels es).queue
none_held levels ch es =
    none_at (ledger ch levels es).entries (read_from chip levels ch [] es) (held chip levels ch es) (demand_3 levels ch es).fates
    ∙ rw (held_queue levels ch es) (nil_empty (receiver_after ch levels es).queue)

-- and the oldest has the same marks in both
pub oldest_known_lem : (levels : ℕ) (ch : Channel) (es : List Event)
    → Arrivals.oldest_marks (receiver_after ch levels es).queue ≡ oldest_known (ledger ch levels es).entries
unfolding fed_of shown_marks pick
oldest_known_lem levels ch es =
    rw (receiver_after_lem ch levels es, ledger_after ch levels es) (delivery Arrivals.fresh_receiver (feeds_after ch levels es)).marks

-- ---- block errors ----

sums_then : (levels : ℕ) (ch : Channel) (es : List Event) (e : Event)
    → pick (is_chip_reset e || command_of ch 4 e) no_marks
    (or_marks (receiver_after ch levels es).sums (became (ledger ch levels es).entries (ledger ch levels (and_then es e)).entries))
    ≡ (receiver_after ch levels (and_then es e)).sums
sums_then levels ch es e =
    let f : Front = front_after levels es in
    let x : Feed = hands_to ch f e in
    let l : Ledger = ledger ch levels es in
    let r : Receiver = receiver_after ch levels es in
    let known : Arrivals.oldest_marks (fed_of r x).receiver.queue ≡ oldest_known (written l x).entries =
    rw (← receiver_then ch levels es e, ← ledger_then levels ch es e) (oldest_known_lem levels ch (and_then es e)) in
    rw (
      receiver_then ch levels es e,
      ledger_then levels ch es e,
      sums_fed l r x (sym (run_sampler levels ch es)) (none_held levels ch es) known,
      sums_handed ch f e,
    )

sums_from_lem : (levels : ℕ) (ch : Channel) (before es : List Event)
    → sums_from ch levels (receiver_after ch levels before).sums before es ≡ (receiver_at ch (after step_of (run_at levels before) es)).sums
unfolding sums_from after
sums_from_lem levels ch before [] = refl
sums_from_lem levels ch before (e ∷ es) =
    rw (sums_then levels ch before e) (sums_from_lem levels ch (and_then before e) es ∙ rw (run_then (reset_at levels) before e))

pub sums_after : (levels : ℕ) (ch : Channel) (es : List Event) → sums_from ch levels no_marks [] es ≡ (receiver_after ch levels es).sums
unfolding after
sums_after levels A es = sums_from_lem levels A [] es
sums_after levels B es = sums_from_lem levels B [] es

-- ---- break change ----

change_then : (levels : ℕ) (ch : Channel) (es : List Event) (e : Event)
    → pick (is_chip_reset e || command_of ch 5 e) false
    ((receiver_after ch levels es).change || changes (ledger ch levels es).sampler (lines_at ch levels es e))
    ≡ (receiver_after ch levels (and_then es e)).change
change_then levels ch es e =
    let f : Front = front_after levels es in
    rw (
      receiver_then ch levels es e,
      change_fed (ledger ch levels es) (receiver_after ch levels es) (hands_to ch f e) (sym (run_sampler levels ch es)),
      change_handed ch f e,
      lines_handed ch levels es e,
    )

change_from_lem : (levels : ℕ) (ch : Channel) (before es : List Event)
    → change_from ch levels (receiver_after ch levels before).change before es ≡ (receiver_at ch (after step_of (run_at levels before) es)).change
unfolding change_from after
change_from_lem levels ch before [] = refl
change_from_lem levels ch before (e ∷ es) =
    rw (change_then levels ch before e) (change_from_lem levels ch (and_then before e) es ∙ rw (run_then (reset_at levels) before e))

pub change_after : (levels : ℕ) (ch : Channel) (es : List Event) → change_from ch levels false [] es ≡ (receiver_after ch levels es).change
unfolding after
change_after levels A es = change_from_lem levels A [] es
change_after levels B es = change_from_lem levels B [] es
