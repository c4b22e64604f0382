-- What an event hands to a channel's receiver, by the event: a read of its buffer, an accepted command, a mode change, a pulse while it is
-- enabled, a chip reset; all else is nothing to it, refused events too. Assumes nothing.
use Prim.Native.Nat.{ℕ, ◌<◌}
use mathlib.Core.Path.{◌≡◌, refl, ◌∙◌}
use mathlib.Core.Bool.{Bool, true, false}
use native.Mathlib.Omega.{arith}
use lib.Dec.{eqb}
use borrow.Author.Tests.{lt-ltb, ne_eqb}
use Rattle.format.specs.Pick.{pick}
use Rattle.format.proofs.Laws.Pick.{pick_all}
use Rattle.byte_bits.specs.Bytes.{has_bit}
use Rattle.feed.specs.declared.feed.Effect.TheVariants.{NoEffect}
use Rattle.feed.specs.declared.feed.Enabling.TheVariants.{Enables}
use Rattle.feed.specs.declared.feed.Setting.{Setting}
use Rattle.feed.specs.declared.feed.Feed.{Feed}
use Rattle.feed.specs.declared.feed.Feed.TheVariants as Feeds
use Rattle.clocks.specs.Pulses.Side.{receives, transmits}
use Rattle.inputs.specs.Inputs.{moved_of, pins_of_a, pins_of_b}
use Rattle.outputs.specs.Outputs.{opcr_not_modelled}
use Rattle.front_side.specs.declared.side.Side.{Side}
use Rattle.front_side.specs.Side.{mode_not_modelled}
use Rattle.front_modes.specs.Modes.{mode_feed}
use Rattle.front_side_clocks.specs.Clocking.{pulse_of, line_of, side_clocked}
use Rattle.front_commands.specs.Commands.{command_feed}
use Rattle.front.specs.declared.front.Front.{Front}
use Rattle.front.specs.declared.front.Handed.{Handed}
use Rattle.front_clocks.specs.Clocking.{clocked_with, clocked_of, levels_moved}
use Rattle.front_reads.specs.Reads.{side_read, register_read}
use Rattle.front_writes.specs.Writes.{side_written, register_written}
use Rattle.events.specs.declared.events.Event.{Event}
use Rattle.events.specs.declared.events.Event.TheVariants.{ChipReset, Read, Write, Acknowledge, Pins, Tick}
use Rattle.front_events.specs.FrontEvents.{front_stepped}
use Rattle.events.specs.Command.{command_forbidden}
use Rattle.chip_refusals.specs.Rows.{register_above15, forbidden_read, forbidden_command, write_not_modelled, setting_not_modelled}
use Rattle.chip_laws.specs.Alone.{handed_after}
use Rattle.demands.specs.Chip.{Channel, of_channel, register_of}
use Rattle.demands.specs.Chip.Channel.{A, B}
use Rattle.demands.specs.Told.{commands, mode_changes}
use Rattle.demands.specs.Clocks.{front_then, side_of, clocks_of, pulsed_by}
use Rattle.demands.proofs.Laws.EachRegister.{by_register}
use Rattle.demands.proofs.Laws.Run.{feed_of}
use Rattle.demands.proofs.Laws.Told.{pick_with, programmed_of}
use Rattle.demands.proofs.Laws.Modes.{changes_told}

-- a pulse, to an enabled receiver: what its side, after the event, lets it hear of RxD as it stands then
abbrev pub pulse_to : Channel → Front → Event → ℕ → Feed
pulse_to ch f e levels =
    line_of (side_of ch (front_then f e)) (pulsed_by receives ch f e) (pulsed_by transmits ch f e) (has_bit levels (of_channel ch 6 7))

abbrev pub hands_to : Channel → Front → Event → Feed
hands_to ch f ChipReset = Feeds.ChipReset
hands_to ch f (Read n) = pick (eqb n (register_of ch 3)) Feeds.Read Feeds.Nothing
hands_to ch f (Write n byte) =
    pick (commands ch n byte) (command_feed (side_of ch f) byte)
    (pick (mode_changes ch (programmed_of (side_of ch f)) n byte) (Feeds.Command NoEffect Enables) Feeds.Nothing)
hands_to ch f Acknowledge = Feeds.Nothing
hands_to ch f (Pins levels) = pulse_to ch f (Pins levels) levels
hands_to ch f Tick = pulse_to ch f Tick f.inputs.levels

-- ---- reads and writes, by the register's number ----

abbrev FeedsRead : Front → ℕ → Type 0
FeedsRead f n = ((handed_after f (Read n)).a ≡ hands_to A f (Read n)) × ((handed_after f (Read n)).b ≡ hands_to B f (Read n))

read_above : (f : Front) (n : ℕ) → 15 < n → FeedsRead f n
unfolding handed_after register_above15 pick
read_above f n h = rw (lt-ltb 15 n h, ne_eqb n 3 (omega arith), ne_eqb n 11 (omega arith)) (refl, refl)

read_feeds : (f : Front) (n : ℕ) → FeedsRead f n
unfolding handed_after register_above15 forbidden_read forbidden_command setting_not_modelled front_stepped register_read side_read pick
read_feeds f n =
    by_register (FeedsRead f) (refl, refl) (refl, refl) (refl, refl) (refl, refl) (refl, refl) (refl, refl) (refl, refl) (refl, refl)
    (refl, refl) (refl, refl) (refl, refl) (refl, refl) (refl, refl) (refl, refl) (refl, refl) (refl, refl) (read_above f) n

-- neither receiver is handed anything
abbrev Idle : Handed → Type 0
Idle h = (h.a ≡ Feeds.Nothing) × (h.b ≡ Feeds.Nothing)

abbrev FeedsWrite : Front → ℕ → ℕ → Type 0
FeedsWrite f n byte =
    ((handed_after f (Write n byte)).a ≡ hands_to A f (Write n byte)) × ((handed_after f (Write n byte)).b ≡ hands_to B f (Write n byte))

write_above : (f : Front) (n byte : ℕ) → 15 < n → FeedsWrite f n byte
unfolding handed_after register_above15 pick
write_above f n byte h =
    rw (lt-ltb 15 n h, ne_eqb n 0 (omega arith), ne_eqb n 2 (omega arith), ne_eqb n 8 (omega arith), ne_eqb n 10 (omega arith)) (refl, refl)

write_feeds : (f : Front) (n byte : ℕ) → FeedsWrite f n byte
unfolding handed_after register_above15 forbidden_read forbidden_command setting_not_modelled write_not_modelled front_stepped register_written side_written mode_feed pick
write_feeds f n byte =
    by_register (λ (k : ℕ). FeedsWrite f k byte)
    mode-a (refl, refl) (command-a (command_forbidden byte) refl) (refl, refl)
    (refl, refl) (refl, refl) (refl, refl) (refl, refl)
    mode-b (refl, refl) (command-b (command_forbidden byte) refl) (refl, refl)
    (refl, refl) (pick_all Idle (opcr_not_modelled byte) _ _ (refl, refl) (refl, refl)) (refl, refl) (refl, refl)
    (λ k above. write_above f k byte above) n
  where
    mode-a : FeedsWrite f 0 byte
    mode-a = (
      pick_with (λ (h : Handed). h.a) (mode_not_modelled f.a byte) refl refl ∙ changes_told f.a byte (Feeds.Command NoEffect Enables) Feeds.Nothing,
      pick_all (λ (h : Handed). h.b ≡ Feeds.Nothing) (mode_not_modelled f.a byte) _ _ refl refl,
    )

    mode-b : FeedsWrite f 8 byte
    mode-b = (
      pick_all (λ (h : Handed). h.a ≡ Feeds.Nothing) (mode_not_modelled f.b byte) _ _ refl refl,
      pick_with (λ (h : Handed). h.b) (mode_not_modelled f.b byte) refl refl ∙ changes_told f.b byte (Feeds.Command NoEffect Enables) Feeds.Nothing,
    )

    command-a : (t : Bool) → command_forbidden byte ≡ t → FeedsWrite f 2 byte
    command-a true e = rw e (refl, refl)
    command-a false e = rw e (refl, refl)

    command-b : (t : Bool) → command_forbidden byte ≡ t → FeedsWrite f 10 byte
    command-b true e = rw e (refl, refl)
    command-b false e = rw e (refl, refl)

-- ---- pin events and ticks ----

pins_feed : (ch : Channel) (f : Front) (levels : ℕ) → feed_of ch (handed_after f (Pins levels)) ≡ hands_to ch f (Pins levels)
unfolding handed_after register_above15 forbidden_read forbidden_command setting_not_modelled front_stepped levels_moved clocked_of clocked_with side_clocked pulsed_by clocks_of moved_of pins_of_a pins_of_b pick
pins_feed A f levels = refl
pins_feed B f levels = refl

tick_feed : (ch : Channel) (f : Front) → feed_of ch (handed_after f Tick) ≡ hands_to ch f Tick
unfolding handed_after register_above15 forbidden_read forbidden_command setting_not_modelled front_stepped clocked_of clocked_with side_clocked pulsed_by clocks_of pins_of_a pins_of_b pick
tick_feed A f = refl
tick_feed B f = refl

-- ---- any event ----

pub hands : (ch : Channel) (f : Front) (e : Event) → feed_of ch (handed_after f e) ≡ hands_to ch f e
unfolding handed_after register_above15 forbidden_read forbidden_command setting_not_modelled front_stepped pick
hands A f ChipReset = refl
hands B f ChipReset = refl
hands A f (Read n) = (read_feeds f n).0
hands B f (Read n) = (read_feeds f n).1
hands A f (Write n byte) = (write_feeds f n byte).0
hands B f (Write n byte) = (write_feeds f n byte).1
hands A f Acknowledge = refl
hands B f Acknowledge = refl
hands ch f (Pins levels) = pins_feed ch f levels
hands ch f Tick = tick_feed ch f

-- what holds of nothing and of every pulse holds of what is handed by a tick or a pin event
pub pulse_all : (P : Feed → Type 0) → P Feeds.Nothing → ((level : Bool) (f : Setting) → P (Feeds.Pulse level f))
    → (s : Side) (receiver transmitter rxd : Bool) → P (line_of s receiver transmitter rxd)
unfolding line_of pulse_of
pulse_all P none pulse s receiver transmitter rxd =
    pick_all P _ _ _ none (pick_all P _ _ _ (pick_all P transmitter _ _ (pulse _ _) none) (pick_all P receiver _ _ (pulse _ _) none))

-- and of a write: a command, or a mode change
pub write_all : (P : Feed → Type 0) (ch : Channel) (f : Front) (n byte : ℕ) → P (command_feed (side_of ch f) byte)
    → P (Feeds.Command NoEffect Enables) → P Feeds.Nothing → P (hands_to ch f (Write n byte))
write_all P ch f n byte command change none = pick_all P (commands ch n byte) _ _ command (pick_all P _ _ _ change none)
