-- Demand 3: the ledger of the events is the ledger of what the front, run alone, hands to the channel's receiver; what the program read and what is
-- held, by the answers, are that receiver's; and of one receiver the demand is proved. Assumes nothing.
use Prim.Native.Nat.{ℕ}
use mathlib.Core.Path.{◌≡◌, refl, sym, ◌∙◌}
use mathlib.Core.Bool.{Bool, true, false}
use mathlib.Core.List.{List, [], ◌∷◌}
use lib.Dec.{eqb}
use Rattle.format.specs.Pick.{pick}
use Rattle.receiver_state.specs.declared.arrivals.Receiver.{Receiver}
use Rattle.receiver_state.specs.Arrivals.{fresh_receiver}
use Rattle.receiver_status.specs.Status.{status_of}
use Rattle.feed.specs.declared.feed.Feed.{Feed}
use Rattle.feed.specs.declared.feed.Feed.TheVariants as Feeds
use Rattle.receiver.specs.Receiver.{fed_of}
use Rattle.receiver.specs.Delivery as Receivers
use Rattle.receiver.specs.Delivery.{opened, lines_over, given, reads}
use Rattle.receiver.proofs.Delivery.{delivery, same_sampler}
use Rattle.front_commands.specs.Commands.{command_feed}
use Rattle.front.specs.declared.front.Front.{Front}
use Rattle.front.specs.Front.{front_at}
use Rattle.events.specs.declared.events.Event.{Event}
use Rattle.events.specs.declared.events.Event.TheVariants.{ChipReset, Read, Write, Acknowledge, Pins, Tick}
use Rattle.chip_step.specs.Chip.{step_of}
use Rattle.chip_laws.specs.Reset.{reset_at}
use Rattle.chip_laws.specs.Sound.{after}
use Rattle.demands.specs.Chip.{Channel, register_of, and_then, over, chip_of}
use Rattle.demands.specs.Chip.Channel.{A, B}
use Rattle.demands.specs.Clocks.{front_then, front_after}
use Rattle.demands.specs.Delivery.{ledger, reads_buffer, lines_from, read_from, Demand3}
use Rattle.demands.proofs.Laws.Run.{run_at, run_then, reset_sound, run_sound, run_front, receiver_at, feeds_from, step_receiver, run_receiver}
use Rattle.demands.proofs.Laws.Told.{over_then}
use Rattle.demands.proofs.Laws.Feeds.{hands_to, hands, pulse_all, write_all}
use Rattle.demands.proofs.Laws.Lines.{lines_from_lem, ledger_from_lem}
use Rattle.demands.proofs.Laws.Buffer.{overrun_shown, read_given, four_empty, held_queue}

-- ---- what the program read ----

abbrev pub is_read : Feed → Bool
is_read Feeds.Nothing = false
is_read (Feeds.Pulse level f) = false
is_read (Feeds.Command e t) = false
is_read Feeds.Read = true
is_read Feeds.ChipReset = false

-- only a read of the buffer gives a character
given_read : (r : Receiver) (x : Feed) → given fed_of status_of r x ≡ pick (is_read x) (given fed_of status_of r Feeds.Read) []
unfolding given pick
given_read r Feeds.Nothing = refl
given_read r (Feeds.Pulse level f) = refl
given_read r (Feeds.Command e t) = refl
given_read r Feeds.Read = refl
given_read r Feeds.ChipReset = refl

read_picked : (t : Bool) → is_read (pick t Feeds.Read Feeds.Nothing) ≡ t
unfolding pick
read_picked true = refl
read_picked false = refl

pub read_handed : (ch : Channel) (f : Front) (e : Event) → is_read (hands_to ch f e) ≡ reads_buffer ch e
unfolding command_feed
read_handed ch f ChipReset = refl
read_handed ch f (Read n) = read_picked (eqb n (register_of ch 3))
read_handed ch f (Write n byte) = write_all (λ (x : Feed). is_read x ≡ false) ch f n byte refl refl refl
read_handed ch f Acknowledge = refl
read_handed ch f (Pins levels) = pulse_all (λ (x : Feed). is_read x ≡ false) refl (λ level g. refl) _ _ _ _
read_handed ch f Tick = pulse_all (λ (x : Feed). is_read x ≡ false) refl (λ level g. refl) _ _ _ _

-- the receiver after one event more
pub receiver_then : (ch : Channel) (levels : ℕ) (es : List Event) (e : Event)
    → receiver_at ch (run_at levels (and_then es e)) ≡ (fed_of (receiver_at ch (run_at levels es)) (hands_to ch (front_after levels es) e)).receiver
receiver_then ch levels es e =
    rw (
      run_then (reset_at levels) es e,
      step_receiver ch (run_at levels es) e (run_sound levels es),
      run_front levels es,
      hands ch (front_after levels es) e,
    )

pub reads_from : (ch : Channel) (levels : ℕ) (before es : List Event)
    → read_from (chip_of step_of) levels ch before es
    ≡ reads fed_of status_of (receiver_at ch (run_at levels before)) (feeds_from ch (front_after levels before) es)
unfolding read_from reads feeds_from
reads_from ch levels before [] = refl
reads_from ch levels before (e ∷ es) =
    rw (
      hands ch (front_after levels before) e,
      reads_from ch levels (and_then before e) es,
      read_given levels ch before,
      given_read (receiver_at ch (run_at levels before)) (hands_to ch (front_after levels before) e),
      read_handed ch (front_after levels before) e,
      receiver_then ch levels before e,
      over_then front_then (front_at levels) before e,
    )

-- ---- since a chip reset ----

-- what the front hands on
abbrev pub feeds_after : Channel → ℕ → List Event → List Feed
feeds_after ch levels es = feeds_from ch (front_at levels) es

reset_receiver : (ch : Channel) (levels : ℕ) → receiver_at ch (reset_at levels) ≡ fresh_receiver
reset_receiver A levels = refl
reset_receiver B levels = refl

pub receiver_after_lem : (ch : Channel) (levels : ℕ) (es : List Event)
    → receiver_at ch (run_at levels es) ≡ Receivers.after fed_of fresh_receiver (feeds_after ch levels es)
receiver_after_lem ch levels es = run_receiver ch (reset_at levels) es (reset_sound levels) ∙ rw (reset_receiver ch levels)

pub ledger_after : (ch : Channel) (levels : ℕ) (es : List Event) → ledger ch levels es ≡ Receivers.ledger (feeds_after ch levels es)
unfolding over
ledger_after ch levels es = ledger_from_lem ch levels opened [] es

pub lines_after_lem : (ch : Channel) (levels : ℕ) (es : List Event) → lines_from ch levels [] es ≡ lines_over (feeds_after ch levels es)
unfolding over
lines_after_lem ch levels es = lines_from_lem ch levels [] es

pub reads_after : (ch : Channel) (levels : ℕ) (es : List Event)
    → read_from (chip_of step_of) levels ch [] es ≡ reads fed_of status_of fresh_receiver (feeds_after ch levels es)
unfolding over after
reads_after ch levels es = reads_from ch levels [] es ∙ rw (reset_receiver ch levels)

pub run_sampler : (levels : ℕ) (ch : Channel) (es : List Event) → (receiver_at ch (run_at levels es)).sampler ≡ (ledger ch levels es).sampler
run_sampler levels ch es =
    rw (receiver_after_lem ch levels es, ledger_after ch levels es) (sym (same_sampler (feeds_after ch levels es)))

pub demand_3 : Demand3 (chip_of step_of)
unfolding fed_of
demand_3 levels ch es =
    let h = delivery fresh_receiver (feeds_after ch levels es) in
    record {
      all = rw (ledger_after ch levels es, lines_after_lem ch levels es) h.all;
      fates = rw (ledger_after ch levels es, reads_after ch levels es, held_queue levels ch es, receiver_after_lem ch levels es) h.fates;
      four = four_empty levels ch es;
      overrun = rw (overrun_shown levels ch es, receiver_after_lem ch levels es, ledger_after ch levels es) (h.overrun false);
    }
