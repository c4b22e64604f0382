-- What a sampler hears of an event, and the fates that the event brings, are those of what the front, run alone, hands to the channel's receiver.
-- So the ledger of some events is the ledger of what is handed on. Assumes nothing.
use Prim.Native.Nat.{ℕ, ◌/◌, ◌%◌}
use mathlib.Core.Path.{◌≡◌, refl, sym, ap, ◌∙◌}
use mathlib.Core.Bool.{Bool, true, false, not, ◌&&◌, ◌||◌, or-false}
use mathlib.Core.List.{List, [], ◌∷◌, ◌++◌}
use native.Mathlib.Omega.{arith}
use lib.Dec.{eqb}
use borrow.Author.Tests.{le-ltb}
use Rattle.format.specs.Pick.{pick}
use Rattle.format.proofs.Laws.Pick.{pick_all}
use Rattle.sampler_state.specs.declared.state.Sampler.{Sampler}
use Rattle.sampler_state.specs.State.{hunting}
use Rattle.sampler_hunting.specs.Hunting.{still}
use Rattle.sampler.specs.Lines.{Line, hears}
use Rattle.sampler.specs.Lines.Line.{enable, disable}
use Rattle.feed.specs.declared.feed.Effect.{Effect}
use Rattle.feed.specs.declared.feed.Effect.TheVariants.{NoEffect, Reset, ClearErrors, ClearBreakChange}
use Rattle.feed.specs.declared.feed.Enabling.{Enabling}
use Rattle.feed.specs.declared.feed.Enabling.TheVariants.{Stays, Enables, Disables}
use Rattle.feed.specs.declared.feed.Feed.{Feed}
use Rattle.feed.specs.declared.feed.Feed.TheVariants as Feeds
use Rattle.receiver.specs.Delivery as Receivers
use Rattle.receiver.specs.Delivery.{Ledger, meets, drop_all, clears, overruns, pulse_written, effect_lines, lines_of, lines_over, effect_written, enabling_written, written}
use Rattle.receiver.specs.Delivery.Fate.{WasRead}
use Rattle.clocks.specs.Pulses.Side.{receives, transmits}
use Rattle.front_commands.specs.Commands.{receiver_effect, receiver_enabling, command_feed}
use Rattle.front_side.specs.declared.side.Side.{Side}
use Rattle.front_modes.specs.Modes.{local_mode, remote_mode}
use Rattle.front_side_clocks.specs.Clocking.{pulse_of, line_of}
use Rattle.front.specs.declared.front.Front.{Front}
use Rattle.events.specs.declared.events.Event.{Event}
use Rattle.events.specs.declared.events.Event.TheVariants.{ChipReset, Read, Write, Acknowledge, Pins, Tick}
use Rattle.front.specs.Front.{front_at}
use Rattle.chip_laws.specs.Alone.{handed_after}
use Rattle.demands.specs.Chip.{Channel, register_of, and_then}
use Rattle.demands.specs.Told.{levels_then, commands, programmed}
use Rattle.demands.specs.Clocks.{front_then, front_after, side_of, pulsed_after}
use Rattle.demands.specs.Pulses.{clocks}
use Rattle.demands.specs.Sending.{sender_after}
use Rattle.demands.specs.Delivery.{heard_at, heard_by, reset_lines, enabling_lines, command_lines, lines_at, lines_from, command_fate, fate_of, heard_all, ledger_from}
use Rattle.demands.proofs.Laws.Run.{feed_of, feeds_from}
use Rattle.demands.proofs.Laws.Told.{told, levels_told, over_then, pick_with, programmed_of, programmed_stays}
use Rattle.demands.proofs.Laws.Senders.{sender_told}
use Rattle.demands.proofs.Laws.Feeds.{hands_to, hands, pulse_all}

-- ---- a command ----

effect_heard : (bits : ℕ) → reset_lines bits ≡ effect_lines (receiver_effect bits)
unfolding receiver_effect pick
effect_heard bits = go (eqb bits 2) (eqb bits 4) (eqb bits 5)
  where
    go : (s t u : Bool) → pick s (disable ∷ []) [] ≡ effect_lines (pick s Reset (pick t ClearErrors (pick u ClearBreakChange NoEffect)))
    go true t u = refl
    go false true u = refl
    go false false true = refl
    go false false false = refl

enabling_heard : (enabled : Bool) (bits : ℕ) → enabling_lines enabled bits ≡ Receivers.enabling_lines (receiver_enabling enabled bits)
unfolding receiver_enabling pick
enabling_heard enabled bits = go (eqb bits 1) (eqb bits 2) enabled
  where
    go : (s t u : Bool) → pick s (pick u [] (enable ∷ [])) (pick t (disable ∷ []) [])
        ≡ Receivers.enabling_lines (pick s (pick u Stays Enables) (pick t Disables Stays))
    go true t true = refl
    go true t false = refl
    go false true u = refl
    go false false u = refl

command_heard : (s : Side) (byte : ℕ) → command_lines s.enabled byte ≡ lines_of (command_feed s byte)
unfolding command_feed
command_heard s byte = rw (effect_heard (byte / 16 % 8), enabling_heard (s.enabled && not (eqb (byte / 16 % 8) 2)) (byte % 4))

-- ---- the lines of an event ----

lines_picked : (t : Bool) (x y : Feed) → pick t (lines_of x) (lines_of y) ≡ lines_of (pick t x y)
unfolding pick
lines_picked true x y = refl
lines_picked false x y = refl

-- what a side lets its receiver hear
line_heard : (s : Side) (receiver transmitter rxd : Bool)
    → heard_by (programmed_of s) receiver transmitter s.transmitter.txd rxd ≡ lines_of (line_of s receiver transmitter rxd)
unfolding line_of pulse_of pick
line_heard s receiver transmitter rxd = go (not s.enabled || remote_mode s.mr2) (local_mode s.mr2) receiver transmitter
  where
    go : (off local r t : Bool)
        → pick off []
        (pick local (heard_at s.mr1 (s.csr % 16) t s.transmitter.txd) (heard_at s.mr1 (s.csr / 16) r rxd))
        ≡ lines_of
        (pick off Feeds.Nothing
        (pick local (pulse_of s.mr1 (s.csr % 16) t s.transmitter.txd) (pulse_of s.mr1 (s.csr / 16) r rxd)))
    go true local r t = refl
    go false true r true = refl
    go false true r false = refl
    go false false true t = refl
    go false false false t = refl

-- a tick, or a pin event: the side as it stands after it
pulse_heard : (ch : Channel) (levels : ℕ) (es : List Event) (e : Event) (rxd : Bool) → clocks e ≡ true
    → heard_by (programmed ch es) (pulsed_after receives ch levels es e) (pulsed_after transmits ch levels es e) (sender_after levels ch (and_then es e)).txd rxd
    ≡ lines_of
    (line_of (side_of ch (front_then (front_after levels es) e)) (pulsed_after receives ch levels es e) (pulsed_after transmits ch levels es e) rxd)
pulse_heard ch levels es e rxd k =
    rw (
      ← programmed_stays ch es e k,
      told ch levels (and_then es e),
      sender_told levels ch (and_then es e),
      ← over_then front_then (front_at levels) es e,
    )
    (line_heard (side_of ch (front_after levels (and_then es e))) _ _ rxd)

pub lines_handed : (ch : Channel) (levels : ℕ) (es : List Event) (e : Event) → lines_at ch levels es e ≡ lines_of (hands_to ch (front_after levels es) e)
unfolding lines_at
lines_handed ch levels es ChipReset = refl
lines_handed ch levels es (Read n) = pick_all (λ (x : Feed). [] ≡ lines_of x) (eqb n (register_of ch 3)) _ _ refl refl
lines_handed ch levels es (Write n byte) =
    rw (told ch levels es, command_heard, ← lines_picked (commands ch n byte)) (ap (pick (commands ch n byte) _) (lines_picked _ (Feeds.Command NoEffect Enables) Feeds.Nothing))
lines_handed ch levels es Acknowledge = refl
lines_handed ch levels es (Pins x) = rw (over_then levels_then levels es (Pins x)) (pulse_heard ch levels es (Pins x) _ refl)
lines_handed ch levels es Tick = rw (over_then levels_then levels es Tick, levels_told levels es) (pulse_heard ch levels es Tick _ refl)

-- ---- the fates of an event ----

-- by what is handed on
abbrev effect_fate : Ledger → Effect → Ledger
effect_fate l NoEffect = l
effect_fate l Reset = record { sampler = l.sampler; entries = drop_all l.entries; overran = l.overran }
effect_fate l ClearErrors = record { sampler = l.sampler; entries = clears l.entries; overran = false }
effect_fate l ClearBreakChange = l

abbrev fate_by : Ledger → Feed → Ledger
fate_by l Feeds.Nothing = l
fate_by l (Feeds.Pulse level f) = l
fate_by l (Feeds.Command e t) = effect_fate l e
fate_by l Feeds.Read = record { sampler = l.sampler; entries = meets 0 WasRead l.entries; overran = l.overran }
fate_by l Feeds.ChipReset = record { sampler = l.sampler; entries = drop_all l.entries; overran = false }

command_fate_lem : (l : Ledger) (bits : ℕ) → command_fate l bits ≡ effect_fate l (receiver_effect bits)
unfolding receiver_effect pick
command_fate_lem l bits = go (eqb bits 2) (eqb bits 4) (eqb bits 5)
  where
    go : (s t u : Bool) → pick s (effect_fate l Reset) (pick t (effect_fate l ClearErrors) l)
        ≡ effect_fate l (pick s Reset (pick t ClearErrors (pick u ClearBreakChange NoEffect)))
    go true t u = refl
    go false true u = refl
    go false false true = refl
    go false false false = refl

fate_picked : (l : Ledger) (t : Bool) (x : Feed) → pick t (fate_by l x) l ≡ fate_by l (pick t x Feeds.Nothing)
unfolding pick
fate_picked l true x = refl
fate_picked l false x = refl

fate_handed : (ch : Channel) (l : Ledger) (f : Front) (e : Event) → fate_of ch l e ≡ fate_by l (hands_to ch f e)
unfolding fate_of command_feed
fate_handed ch l f ChipReset = refl
fate_handed ch l f (Read n) = fate_picked l (eqb n (register_of ch 3)) Feeds.Read
fate_handed ch l f (Write n byte) =
    rw (command_fate_lem l (byte / 16 % 8))
    (sym (pick_with (λ (x : Feed). fate_by l x) (commands ch n byte) refl (pick_all (λ (y : Feed). fate_by l y ≡ l) _ _ _ refl refl)))
fate_handed ch l f Acknowledge = refl
fate_handed ch l f (Pins x) = pulse_all (λ (y : Feed). l ≡ fate_by l y) refl (λ level g. refl) _ _ _ _
fate_handed ch l f Tick = pulse_all (λ (y : Feed). l ≡ fate_by l y) refl (λ level g. refl) _ _ _ _

-- ---- what is heard is written ----

-- an enable or a disable changes the sampler alone
heard_still : (l : Ledger) (s : Sampler) → pulse_written l (still s) ≡ record { sampler = s; entries = l.entries; overran = l.overran }
heard_still l s = rw (le-ltb (overruns l.entries) (overruns l.entries) (omega arith), or-false)

effect_written_lem : (l : Ledger) (e : Effect) (xs : List Line) → heard_all (effect_fate l e) (effect_lines e ++ xs) ≡ heard_all (effect_written l e) xs
unfolding hears
effect_written_lem l NoEffect xs = refl
effect_written_lem l Reset xs = rw (heard_still (effect_fate l Reset) (hunting false))
effect_written_lem l ClearErrors xs = refl
effect_written_lem l ClearBreakChange xs = refl

enabling_written_lem : (l : Ledger) (t : Enabling) → heard_all l (Receivers.enabling_lines t) ≡ enabling_written l t
unfolding hears
enabling_written_lem l Stays = refl
enabling_written_lem l Enables = heard_still l (hunting false)
enabling_written_lem l Disables = heard_still l (hunting false)

heard_written : (l : Ledger) (x : Feed) → heard_all (fate_by l x) (lines_of x) ≡ written l x
unfolding written hears
heard_written l Feeds.Nothing = refl
heard_written l (Feeds.Pulse level f) = refl
heard_written l (Feeds.Command e t) = effect_written_lem l e (Receivers.enabling_lines t) ∙ enabling_written_lem (effect_written l e) t
heard_written l Feeds.Read = refl
heard_written l Feeds.ChipReset = heard_still (fate_by l Feeds.ChipReset) (hunting false)

-- ---- one event, and a list of them ----

pub lines_event : (ch : Channel) (levels : ℕ) (es : List Event) (e : Event)
    → lines_at ch levels es e ≡ lines_of (feed_of ch (handed_after (front_after levels es) e))
lines_event ch levels es e = rw (hands ch (front_after levels es) e) (lines_handed ch levels es e)

pub ledger_event : (ch : Channel) (levels : ℕ) (l : Ledger) (es : List Event) (e : Event)
    → heard_all (fate_of ch l e) (lines_at ch levels es e) ≡ written l (feed_of ch (handed_after (front_after levels es) e))
ledger_event ch levels l es e =
    let f : Front = front_after levels es in
    rw (lines_handed ch levels es e, fate_handed ch l f e, hands ch f e) (heard_written l (hands_to ch f e))

pub lines_from_lem : (ch : Channel) (levels : ℕ) (before es : List Event)
    → lines_from ch levels before es ≡ lines_over (feeds_from ch (front_after levels before) es)
unfolding lines_from lines_over feeds_from
lines_from_lem ch levels before [] = refl
lines_from_lem ch levels before (e ∷ es) =
    rw (lines_event ch levels before e, lines_from_lem ch levels (and_then before e) es, over_then front_then (front_at levels) before e)

pub ledger_from_lem : (ch : Channel) (levels : ℕ) (l : Ledger) (before es : List Event)
    → ledger_from ch levels l before es ≡ Receivers.ledger_from l (feeds_from ch (front_after levels before) es)
unfolding ledger_from Receivers.ledger_from feeds_from
ledger_from_lem ch levels l before [] = refl
ledger_from_lem ch levels l before (e ∷ es) =
    rw (ledger_event ch levels l before e, ledger_from_lem ch levels (written l (feed_of ch (handed_after (front_after levels before) e))) (and_then before e) es, over_then front_then (front_at levels) before e)
