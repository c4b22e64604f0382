-- What one feed does to a receiver's last byte read, block sums and break change, by the feed and by the ledger beside it: only a read sets the
-- first, only one that becomes oldest adds to the second, and only a pulse sets the third. Assumes nothing.
use mathlib.Core.Path.{◌≡◌, refl, sym, ◌∙◌}
use mathlib.Core.Bool.{Bool, true, false, not, ◌&&◌, ◌||◌, or-false}
use mathlib.Core.List.{List, ◌++◌}
use native.Mathlib.Omega.{arith}
use lib.Dec.{eqb}
use borrow.Author.Tests.{leb-true, ne_eqb}
use Rattle.format.specs.Pick.{pick}
use Rattle.format.proofs.Laws.Pick.{pick_all}
use Rattle.character.specs.declared.character.Marks.{Marks}
use Rattle.character.specs.Character.{no_marks, or_marks}
use Rattle.sampler_state.specs.declared.state.Sampler.{Sampler}
use Rattle.sampler_state.specs.State.{hunting}
use Rattle.std.specs.Prelude.{Option, None, Some}
use Rattle.character.specs.declared.character.Character.{Character}
use Rattle.sampler_hunting.specs.declared.hunting.Sampled.{Sampled}
use Rattle.sampler.specs.Lines.{hears}
use Rattle.sampler.specs.Sampler.{sample_of}
use Rattle.queue.specs.Queue.{is_empty_of, waits_of, without_waiting_of}
use Rattle.receiver_state.specs.declared.arrivals.Receiver.{Receiver}
use Rattle.receiver_state.specs.Arrivals.{oldest_marks, answered_of, heard_of, started_of, entered_of, arrived_of, pulsed_of}
use Rattle.feed.specs.declared.feed.Effect.{Effect}
use Rattle.feed.specs.declared.feed.Effect.TheVariants.{NoEffect, Reset, ClearErrors, ClearBreakChange}
use Rattle.feed.specs.declared.feed.Enabling.{Enabling}
use Rattle.feed.specs.declared.feed.Enabling.TheVariants.{Stays, Enables, Disables}
use Rattle.receiver_commands.specs.Commands.{effect_of, enabling_of}
use Rattle.receiver.specs.declared.receiver.Fed.{Fed}
use Rattle.feed.specs.declared.feed.Feed.{Feed}
use Rattle.feed.specs.declared.feed.Feed.TheVariants as Feeds
use Rattle.receiver.specs.Receiver.{oldest_read, read_of, fed_of}
use Rattle.receiver.specs.Delivery.{Entry, Ledger, meets, starts, enters, lines_of, effect_lines, enabling_lines, effect_written, enabling_written, written, oldest_known}
use Rattle.receiver.specs.Delivery.Fate.{WasRead}
use Rattle.demands.specs.Received.{oldest_at, became, changes}
use Rattle.demands.proofs.Delivery.{is_read}
use Rattle.demands.proofs.Laws.Oldest.{became_same, became_dropped, became_started, became_entered, became_read}
use Rattle.demands.proofs.Laws.Clearing.{is_reset, clears_errors, clears_break, clears_sums, clears_change}

-- ---- a pulse ----

answered_last : (r : Receiver) (m : Sampled) → (answered_of r m).last ≡ r.last
unfolding arrived_of entered_of started_of pick
answered_last r m = go m.started m.came
  where
    go : (t : Bool) (o : Option Character) → (arrived_of (started_of (heard_of r m.next m.change) t) o).last ≡ r.last
    go true None = refl
    go true (Some c) = refl
    go false None = refl
    go false (Some c) = refl

answered_change : (r : Receiver) (m : Sampled) → (answered_of r m).change ≡ r.change || m.change
unfolding arrived_of entered_of started_of pick
answered_change r m = go m.started m.came
  where
    go : (t : Bool) (o : Option Character) → (arrived_of (started_of (heard_of r m.next m.change) t) o).change ≡ r.change || m.change
    go true None = refl
    go true (Some c) = refl
    go false None = refl
    go false (Some c) = refl

or_none : (x : Marks) → or_marks x no_marks ≡ x
or_none x = rw (or-false x.broken, or-false x.framing, or-false x.parity)

-- a queue without the one that waits is as empty as it was
started_empty : (r : Receiver) (t : Bool) → is_empty_of (started_of r t).queue ≡ is_empty_of r.queue
unfolding started_of without_waiting_of pick
started_empty r false = refl
started_empty r true = go (waits_of r.queue) refl
  where
    go : (b : Bool) → waits_of r.queue ≡ b → is_empty_of (without_waiting_of r.queue) ≡ is_empty_of r.queue
    go true e =
        let four = leb-true 4 r.queue.count e in
        rw e (sym (ne_eqb r.queue.count 0 (omega arith)))
    go false e = rw e

started_sums : (r : Receiver) (t : Bool) → (started_of r t).sums ≡ r.sums
unfolding started_of
started_sums r t = pick_all (λ (x : Receiver). x.sums ≡ r.sums) t _ _ refl refl

-- "the marks, each bit ORed, of all that became oldest"
answered_sums : (l : List Entry) (r : Receiver) (m : Sampled) → eqb (oldest_at 0 l) 0 ≡ is_empty_of r.queue
    → (answered_of r m).sums ≡ or_marks r.sums (became l (enters m.came (starts m.started l)))
unfolding arrived_of entered_of pick
answered_sums l r m h = go m.came
  where
    n : Receiver
    n = started_of (heard_of r m.next m.change) m.started

    sums : n.sums ≡ r.sums
    sums = started_sums (heard_of r m.next m.change) m.started

    empty : is_empty_of n.queue ≡ is_empty_of r.queue
    empty = started_empty (heard_of r m.next m.change) m.started

    either : (b : Bool) (x : Marks) → pick b (or_marks r.sums x) r.sums ≡ or_marks r.sums (pick b x no_marks)
    either true x = refl
    either false x = sym (or_none r.sums)

    go : (o : Option Character) → (arrived_of n o).sums ≡ or_marks r.sums (became l (enters o (starts m.started l)))
    go None = rw (sums, became_started m.started l) (sym (or_none r.sums))
    go (Some c) = rw (sums, empty, became_entered m.started l c, h) (either (is_empty_of r.queue) c.marks)

-- ---- a command ----

-- bits 1-0 go by the sampler alone
record Same (r n : Receiver) : Type 0 where
  pub last : n.last ≡ r.last
  pub sums : n.sums ≡ r.sums
  pub change : n.change ≡ r.change

enabling_same : (r : Receiver) (t : Enabling) → Same r (enabling_of r t)
unfolding enabling_of
enabling_same r Stays = record { last = refl; sums = refl; change = refl }
enabling_same r Enables = record { last = refl; sums = refl; change = refl }
enabling_same r Disables = record { last = refl; sums = refl; change = refl }

enabling_entries : (l : Ledger) (t : Enabling) → (enabling_written l t).entries ≡ l.entries
enabling_entries l Stays = refl
enabling_entries l Enables = refl
enabling_entries l Disables = refl

effect_last : (r : Receiver) (e : Effect) → (effect_of r e).last ≡ r.last
unfolding effect_of
effect_last r NoEffect = refl
effect_last r Reset = refl
effect_last r ClearErrors = refl
effect_last r ClearBreakChange = refl

effect_sums : (l : Ledger) (r : Receiver) (e : Effect)
    → (effect_of r e).sums ≡ pick (clears_errors e) no_marks (or_marks r.sums (became l.entries (effect_written l e).entries))
unfolding effect_of pick
effect_sums l r NoEffect = rw (became_same l.entries l.entries refl) (sym (or_none r.sums))
effect_sums l r Reset = rw (became_dropped l.entries) (sym (or_none r.sums))
effect_sums l r ClearErrors = refl
effect_sums l r ClearBreakChange = rw (became_same l.entries l.entries refl) (sym (or_none r.sums))

effect_change : (r : Receiver) (e : Effect) → (effect_of r e).change ≡ pick (clears_break e) false r.change
unfolding effect_of pick
effect_change r NoEffect = refl
effect_change r Reset = refl
effect_change r ClearErrors = refl
effect_change r ClearBreakChange = refl

-- no break change is heard of a command
enabling_unheard : (s : Sampler) (t : Enabling) → changes s (enabling_lines t) ≡ false
unfolding hears
enabling_unheard s Stays = refl
enabling_unheard s Enables = refl
enabling_unheard s Disables = refl

command_unheard : (s : Sampler) (e : Effect) (t : Enabling) → changes s (effect_lines e ++ enabling_lines t) ≡ false
unfolding hears
command_unheard s NoEffect t = enabling_unheard s t
command_unheard s Reset t = enabling_unheard (hunting false) t
command_unheard s ClearErrors t = enabling_unheard s t
command_unheard s ClearBreakChange t = enabling_unheard s t

-- ---- any feed ----

-- "reading an empty queue repeats the last byte read (0 after a chip reset) and takes nothing"
pub last_fed : (r : Receiver) (x : Feed)
    → (fed_of r x).receiver.last ≡ pick (is_reset x) 0 (pick (is_read x && not (is_empty_of r.queue)) (read_of r).byte r.last)
unfolding fed_of pulsed_of read_of oldest_read pick
last_fed r Feeds.Nothing = refl
last_fed r (Feeds.Pulse level f) = answered_last r (sample_of r.sampler level f)
last_fed r (Feeds.Command e t) = (enabling_same (effect_of r e) t).last ∙ effect_last r e
last_fed r Feeds.Read = go (is_empty_of r.queue) refl
  where
    go : (b : Bool) → is_empty_of r.queue ≡ b → (read_of r).receiver.last ≡ pick (not b) (read_of r).byte r.last
    go true e = rw e
    go false e = rw e
last_fed r Feeds.ChipReset = refl

-- "the marks, each bit ORed, of all that became oldest since command 4 or a chip reset"
pub sums_fed : (l : Ledger) (r : Receiver) (x : Feed) → l.sampler ≡ r.sampler → eqb (oldest_at 0 l.entries) 0 ≡ is_empty_of r.queue
    → oldest_marks (fed_of r x).receiver.queue ≡ oldest_known (written l x).entries
    → (fed_of r x).receiver.sums ≡ pick (clears_sums x) no_marks (or_marks r.sums (became l.entries (written l x).entries))
unfolding fed_of written hears pulsed_of read_of oldest_read pick
sums_fed l r Feeds.Nothing s h k = rw (became_same l.entries l.entries refl) (sym (or_none r.sums))
sums_fed l r (Feeds.Pulse level f) s h k = rw s (answered_sums l.entries r (sample_of r.sampler level f) h)
sums_fed l r (Feeds.Command e t) s h k =
    (enabling_same (effect_of r e) t).sums ∙ rw (enabling_entries (effect_written l e) t) (effect_sums l r e)
sums_fed l r Feeds.Read s h k = rw (became_read l.entries, h) (go (is_empty_of r.queue) refl)
  where
    go : (b : Bool) → is_empty_of r.queue ≡ b
        → (read_of r).receiver.sums ≡ or_marks r.sums (pick b no_marks (oldest_known (meets 0 WasRead l.entries)))
    go true e = rw e (sym (or_none r.sums))
    go false e = rw (← k, e)
sums_fed l r Feeds.ChipReset s h k = refl

read_change : (r : Receiver) → (read_of r).receiver.change ≡ r.change
unfolding read_of oldest_read
read_change r = pick_all (λ (x : Fed). x.receiver.change ≡ r.change) (is_empty_of r.queue) _ _ refl refl

-- "break change set", "5 clear break change"
pub change_fed : (l : Ledger) (r : Receiver) (x : Feed) → l.sampler ≡ r.sampler
    → (fed_of r x).receiver.change ≡ pick (clears_change x) false (r.change || changes l.sampler (lines_of x))
unfolding fed_of hears pulsed_of pick
change_fed l r Feeds.Nothing s = sym (or-false r.change)
change_fed l r (Feeds.Pulse level f) s = rw (s, or-false) (answered_change r (sample_of r.sampler level f))
change_fed l r (Feeds.Command e t) s =
    (enabling_same (effect_of r e) t).change ∙ rw (command_unheard l.sampler e t, or-false) (effect_change r e)
change_fed l r Feeds.Read s = read_change r ∙ sym (or-false r.change)
change_fed l r Feeds.ChipReset s = refl
