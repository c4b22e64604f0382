-- "Crystal ticks, 16X pulses and whole bits are three counts the manual keeps apart.": when each side of a channel has
-- its pulses, by the events and by what the program set. It is said of any way to tell it, and proved of the one that
-- the demands speak of. Assumes nothing.
use Rattle.std.specs.Prelude.{ℕ, suc, ◌+◌, ◌*◌, ◌<◌, ◌/◌, ◌%◌, ◌≡◌, Bool, true, false, not, ◌&&◌, List, [], ◌∷◌, ◌++◌}
use Rattle.std.specs.Prelude.{eqb}
use Rattle.format.specs.Digits.{bit}
use Rattle.format.specs.Pick.{pick}
use Rattle.dividers.specs.Rates.{period_of}
use Rattle.clocks.specs.Pulses.{Side, code_of}
use Rattle.clocks.specs.Pulses.Side.{receives, transmits}
use Rattle.inputs.specs.Inputs.{rises_of, falls_of}
use Rattle.timer.specs.Counts.{pulses_of}
use Rattle.timer.specs.Modes.{timer_in}
use Rattle.events.specs.declared.events.Event.{Event}
use Rattle.events.specs.declared.events.Event.TheVariants.{ChipReset, Read, Write, Acknowledge, Pins, Tick}
use Rattle.demands.specs.Chip.{Channel, of_channel, register_of, and_then, over}
use Rattle.demands.specs.Told.{levels_after, programmed}
use Rattle.demands.specs.Registers.{acr_after, mode_after}
use Rattle.demands.specs.Counter.{preload_after, pulse_at, since, Loaded}
use Rattle.demands.specs.Counted.{timer_after}

-- whether an event pulses a side of a channel, after a chip reset with these levels on the pins and then these events
abbrev pub Pulsing : Type 0
Pulsing = Side → Channel → ℕ → List Event → Event → Bool

-- ---- the ticks since a channel's phases restarted ----

pub record Restarts : Type 0 where
  pub acr : ℕ
  pub ticks : ℕ

-- "A CSR write restarts that channel's phases, the next pulse coming a full period later; a change of ACR bit 7
-- restarts all four."
abbrev pub restarts_then : Channel → Restarts → Event → Restarts
restarts_then ch x ChipReset = record { acr = 0; ticks = 0 }
restarts_then ch x (Read n) = x
restarts_then ch x (Write n byte) =
    pick (eqb n (register_of ch 1)) (record { acr = x.acr; ticks = 0 })
    (pick (eqb n 4) (record { acr = byte; ticks = pick (eqb (x.acr / 128) (byte / 128)) x.ticks 0 })
    x)
restarts_then ch x Acknowledge = x
restarts_then ch x (Pins levels) = x
restarts_then ch x Tick = record { acr = x.acr; ticks = suc x.ticks }

abbrev pub ticks_after : Channel → List Event → ℕ
ticks_after ch es = (over (restarts_then ch) (record { acr = 0; ticks = 0 }) es).ticks

-- ---- the sources ----

-- An event of the crystal. (The chip has a test of its own: this one is the statement's.)
abbrev pub tick_event : Event → Bool
tick_event ChipReset = false
tick_event (Read n) = false
tick_event (Write n byte) = false
tick_event Acknowledge = false
tick_event (Pins levels) = false
tick_event Tick = true

abbrev pub clocks : Event → Bool
clocks ChipReset = false
clocks (Read n) = false
clocks (Write n byte) = false
clocks Acknowledge = false
clocks (Pins levels) = true
clocks Tick = true

-- "receiver on a rising edge (A IP4, B IP2), transmitter on a falling edge (A IP3, B IP5)"
abbrev pub edge_of : Side → Channel → ℕ → ℕ → Bool
edge_of receives ch before x = rises_of before x (of_channel ch 4 2)
edge_of transmits ch before x = falls_of before x (of_channel ch 3 5)

abbrev pub edge_by : Side → Channel → ℕ → Event → Bool
edge_by side ch before ChipReset = false
edge_by side ch before (Read n) = false
edge_by side ch before (Write n byte) = false
edge_by side ch before Acknowledge = false
edge_by side ch before (Pins x) = edge_of side ch before x
edge_by side ch before Tick = false

-- "CSR bits 7-4 receiver, 3-0 transmitter."
abbrev pub code_after : Side → Channel → List Event → ℕ
code_after side ch es = code_of side (programmed ch es).csr

-- ---- the statement ----

pub record Pulses (pulsed : Pulsing) : Type 0 where
  -- only a tick or a pin event pulses anything: "(a start or a change of ACR gives no pulse)"
  pub only : (side : Side) (ch : Channel) (levels : ℕ) (es : List Event) (e : Event) → clocks e ≡ false
      → pulsed side ch levels es e ≡ false
  -- codes 0 to 12: at each period-th tick since the restart, and at no other event
  pub fixed : (side : Side) (ch : Channel) (levels : ℕ) (es : List Event) (e : Event) → code_after side ch es < 13
      → pulsed side ch levels es e
      ≡ (tick_event e && eqb (suc (ticks_after ch es) % (period_of (eqb (acr_after es / 128) 1) (code_after side ch es)).0) 0)
  -- "14 (16X), 15 (1X)": its pin's edge
  pub pin : (side : Side) (ch : Channel) (levels : ℕ) (es : List Event) (e : Event) → 13 < code_after side ch es
      → pulsed side ch levels es e ≡ edge_by side ch (levels_after levels es) e
  -- "13: the timer's toggle to high .., none in counter mode."
  pub counter : (side : Side) (ch : Channel) (levels : ℕ) (es : List Event) (e : Event) → code_after side ch es ≡ 13
      → timer_in (mode_after es) ≡ false
      → pulsed side ch levels es e ≡ false
  pub toggle : (side : Side) (ch : Channel) (levels : ℕ) (es : List Event) (e : Event) → code_after side ch es ≡ 13
      → timer_in (mode_after es) ≡ true
      → pulsed side ch levels es e
      ≡ (clocks e && (not (timer_after levels es).output && (timer_after levels (and_then es e)).output))
  -- once it is loaded the toggle to high comes with every second terminal: the event pulses the timer, and so many
  -- pulses have come with it
  pub timer : (side : Side) (ch : Channel) (levels mode : ℕ) (es fs : List Event) (load e : Event)
      → code_after side ch (es ++ load ∷ fs) ≡ 13
      → Loaded mode es load (and_then fs e) → timer_in mode ≡ true
      → pulsed side ch levels (es ++ load ∷ fs) e
      ≡ (pulse_at mode levels (es ++ load ∷ fs) e
      && eqb (suc (since mode levels es load fs) % (2 * pulses_of (preload_after es))) 0)

-- ---- the 1X transmitter clock ----

-- the transmitter's pulses since its channel's phases restarted
unfoldable pub sent_since : Pulsing → Channel → ℕ → Restarts → List Event → List Event → ℕ
sent_since pulsed ch levels x before [] = x.ticks
sent_since pulsed ch levels x before (e ∷ es) =
    sent_since pulsed ch levels
    (pick (clocks e)
    (record { acr = x.acr; ticks = x.ticks + bit (pulsed transmits ch levels before e) })
    (restarts_then ch x e))
    (and_then before e) es

abbrev pub sent_after : Pulsing → Channel → ℕ → List Event → ℕ
sent_after pulsed ch levels es = sent_since pulsed ch levels (record { acr = 0; ticks = 0 }) [] es

pub record Ones (pulsed : Pulsing) (one : Channel → ℕ → List Event → Event → Bool) : Type 0 where
  -- "every 16th 16X pulse since that phase restarted"
  pub sixteenth : (ch : Channel) (levels : ℕ) (es : List Event) (e : Event) → (code_after transmits ch es ≡ 15 → ⊥)
      → one ch levels es e ≡ (pulsed transmits ch levels es e && eqb (suc (sent_after pulsed ch levels es) % 16) 0)
  -- "or each 1X pulse"
  pub each : (ch : Channel) (levels : ℕ) (es : List Event) (e : Event) → code_after transmits ch es ≡ 15
      → one ch levels es e ≡ pulsed transmits ch levels es e
