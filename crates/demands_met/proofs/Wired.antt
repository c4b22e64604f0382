-- A sends 85 and B hears it over a wire from TxDA to RxDB, on a divider, on the timer and on a pin's clock: all that ReadsBack supposes is met by each,
-- by computing the definitions, and what B then holds is computed too. Where a front run alone tells it (Lines, Senders), no chip is run. Assumes
-- nothing.
use Prim.Native.Nat.{ℕ, zero, suc, ◌+◌}
use mathlib.Core.Path.{◌≡◌, refl, sym, ◌∙◌, ap, subst}
use mathlib.Core.Bool.{Bool, true}
use mathlib.Core.List.{List, [], ◌∷◌, ◌++◌}
use lib.ListN.{length, replicate, take}
use Rattle.character.specs.Character.{clean}
use Rattle.sampler.specs.Lines.{at16}
use Rattle.receiver_state.specs.declared.arrivals.Receiver.{Receiver}
use Rattle.receiver_state.specs.Arrivals.{fresh_receiver}
use Rattle.receiver.specs.Delivery as Receivers
use Rattle.receiver.specs.Delivery.{lines_over}
use Rattle.clocks.specs.Pulses.Side.{transmits}
use Rattle.front.specs.declared.front.Front.{Front}
use Rattle.format.specs.Digits.{bit}
use Rattle.events.specs.declared.events.Event.{Event}
use Rattle.events.specs.declared.events.Event.TheVariants.{Read, Write, Pins, Tick}
use Rattle.chip_device.specs.declared.device.Device.{Device}
use Rattle.format.specs.Format.{format_of}
use Rattle.format.specs.Pick.{pick}
use Rattle.frame.specs.Levels.{frame}
use Rattle.queue.specs.Queue.{held_of}
use Rattle.receiver.specs.Receiver.{fed_of}
use Rattle.front.specs.Front.{front_at}
use Rattle.chip_step.specs.Chip.{step_of}
use Rattle.chip_laws.specs.Sound.{after}
use Rattle.demands.specs.Chip.{Channel, and_then, status_bit, each_of}
use Rattle.demands.specs.Chip.Channel.{A, B}
use Rattle.demands.specs.Clocks as in_demands
use Rattle.demands.specs.Clocks.{front_then, front_after, pulsed_after}
use Rattle.demands.specs.Cases.{heard, listening, arrives}
use Rattle.demands.specs.Delivery.{lines_at, lines_from, fate_of, ledger_from, held}
use Rattle.demands.specs.Told.{programmed, in_normal}
use Rattle.front_modes.specs.Modes.{txd_of}
use Rattle.demands.specs.Sending.{standing, inputs_at, inputs_from, sender_after, Starts, started_frame, keeps_from, pulses_from, sent_from}
use Rattle.demands.specs.ReadBack.{Listens, undisturbed, carried, format_after, ReadBack}
use Rattle.demands.proofs.Laws.Run.{run_at, feeds_from}
use Rattle.demands.proofs.Laws.Lines.{lines_from_lem}
use Rattle.demands.proofs.Laws.Buffer.{held_queue}
use Rattle.demands.proofs.Laws.Told.{over_then}
use Rattle.demands.proofs.Laws.Echoes.{txd_line}
use Rattle.demands.proofs.Delivery.{receiver_after_lem}
use Rattle.demands.proofs.ReadBack.{reads_back, sent_equal}
use Rattle.demands.proofs.Laws.Looks.{chip}
use Rattle.demands.proofs.Computing.{computing}

-- ---- the wire ----

-- how one pulse is made with RxDB at a level: events before it, the event that pulses both sides, and those after it
pub record Clock : Type 0 where
  pub lead : Bool → List Event
  pub at : Bool → Event
  pub tail : Bool → List Event

abbrev pulse : Clock → Bool → List Event
pulse k level = k.lead level ++ k.at level ∷ k.tail level

abbrev along : Clock → List Bool → List Event
along k [] = []
along k (level ∷ ls) = pulse k level ++ along k ls

-- so many pulses from a device on, each with RxDB at the level that TxDA has before it
unfoldable pub wired : Clock → ℕ → Device → List Event
wired k zero d = []
wired k (suc n) d = let es : List Event = pulse k (step_of d (Read 1)).lines.txda in es ++ wired k n (after step_of d es)

-- code 12: 6 ticks
abbrev divider : Clock
divider = record { lead = λ level. Pins (pick level 255 127) ∷ replicate 5 Tick; at = λ level. Tick; tail = λ level. [] }

-- code 13: 2 ticks, the timer's on ticks with a preload of 1
abbrev timer : Clock
timer = record { lead = λ level. Pins (pick level 255 127) ∷ Tick ∷ []; at = λ level. Tick; tail = λ level. [] }

-- code 14: IP3 falls for transmitter A as IP2 rises for receiver B, and then both go back
abbrev pin : Clock
pin = record { lead = λ level. []; at = λ level. Pins (pick level 247 119); tail = λ level. Pins (pick level 251 123) ∷ [] }

-- ---- the events ----

-- MR1 19, MR2 7 and a CSR on both channels, transmitter A and receiver B enabled
abbrev programs : ℕ → List Event
programs csr = Write 0 19 ∷ Write 0 7 ∷ Write 1 csr ∷ Write 2 4 ∷ Write 8 19 ∷ Write 8 7 ∷ Write 9 csr ∷ Write 10 1 ∷ []

abbrev timed : List Event
timed = programs 221 ++ Write 4 96 ∷ Write 6 0 ∷ Write 7 1 ∷ Read 14 ∷ []

-- one high is heard, and 85 is written
abbrev ready : Clock → List Event → List Event
ready k es = es ++ pulse k true ++ Write 3 85 ∷ []

abbrev levels_of85 : List Bool
levels_of85 = frame true (format_of 19) 7 85

-- The character starts with the event that pulses both sides next. B hears each level one pulse after A sends it: while A sends the first, the high
-- before it; so B's events begin and end one pulse later than A's.
abbrev until : Clock → List Event → List Event
until k es = ready k es ++ k.lead true

abbrev rest : Clock → List Event
rest k = k.tail true ++ along k (take 159 levels_of85)

abbrev before : Clock → List Event → List Event
before k es = and_then (until k es) (k.at true) ++ k.tail true

-- ---- what is supposed ----

pub record Hears (k : Clock) (es : List Event) : Type 0 where
  pub starts : Starts 255 A (until k es) (k.at true)
  pub normal : in_normal (programmed A (until k es)) ≡ true
  pub keeps : keeps_from A (and_then (until k es) (k.at true)) (rest k) ≡ true
  pub whole : pulses_from 255 A (until k es) (k.at true ∷ rest k) ≡ length (started_frame 255 A (until k es) (k.at true))
  pub sixteen : (standing 255 A (until k es) (k.at true)).sixteen ≡ true
  pub formats : format_after A (until k es) ≡ format_after B (before k es)
  pub listens : Listens chip 255 B (before k es)
  pub undisturbed : each_of (undisturbed B) (along k levels_of85) ≡ true
  -- what A sends, and what B's pulses find; on RxDB are TxDA's own levels
  pub sent : sent_from chip 255 A (until k es) (k.at true ∷ rest k) ≡ levels_of85
  pub found : lines_from B 255 (before k es) (along k levels_of85) ≡ carried (at16 (format_after B (before k es))) levels_of85
  pub wire : wired k 161 (run_at 255 (ready k es)) ≡ along k (true ∷ levels_of85)
  -- what was written, and what is held then
  pub holding : (sender_after 255 A (until k es)).holding ≡ 85
  pub held : held chip 255 B (before k es ++ along k levels_of85) ≡ clean 85 ∷ []

-- so the statement speaks of it
pub read_back : (k : Clock) (es : List Event) → Hears k es → ReadBack chip 255 B (before k es) (along k levels_of85) 85
read_back k es h =
    subst (λ (x : ℕ). ReadBack chip 255 B (before k es) (along k levels_of85) x) h.holding
    (sent_equal chip reads_back 255 255 A B (until k es) (rest k) (before k es) (along k levels_of85) (k.at true) h.starts h.normal h.keeps
    h.whole h.sixteen h.formats h.listens h.undisturbed (h.found ∙ ap (carried (at16 (format_after B (before k es)))) (sym h.sent)))

-- ---- by the front's run ----

-- the transmitter's pulses in some events, and TxD after each, from a front on
unfoldable pulses_over : Channel → Front → List Event → ℕ
pulses_over ch f [] = 0
pulses_over ch f (e ∷ es) = bit (in_demands.pulsed_by transmits ch f e) + pulses_over ch (front_then f e) es

unfoldable sent_over : Channel → Front → List Event → List Bool
sent_over ch f [] = []
sent_over ch f (e ∷ es) =
    pick (in_demands.pulsed_by transmits ch f e) (txd_of (in_demands.side_of ch (front_then f e)) ∷ []) [] ++ sent_over ch (front_then f e) es

pulses_over_lem : (pins : ℕ) (ch : Channel) (before es : List Event) → pulses_from pins ch before es ≡ pulses_over ch (front_after pins before) es
unfolding pulses_from pulses_over
pulses_over_lem pins ch before [] = refl
pulses_over_lem pins ch before (e ∷ es) = rw (pulses_over_lem pins ch (and_then before e) es, over_then front_then (front_at pins) before e)

sent_over_lem : (pins : ℕ) (ch : Channel) (before es : List Event) → sent_from chip pins ch before es ≡ sent_over ch (front_after pins before) es
unfolding sent_from sent_over
sent_over_lem pins ch before [] = refl
sent_over_lem pins ch before (e ∷ es) =
    rw (
      sent_over_lem pins ch (and_then before e) es,
      txd_line pins ch (and_then before e),
      over_then front_then (front_at pins) before e,
    )

held_by : (es : List Event) → held_of (Receivers.after fed_of fresh_receiver (feeds_from B (front_at 255) es)).queue ≡ clean 85 ∷ []
    → held chip 255 B es ≡ clean 85 ∷ []
held_by es h = held_queue 255 B es ∙ ap (λ (r : Receiver). held_of r.queue) (receiver_after_lem B 255 es) ∙ h

-- ---- Sends on a divider, and ReadsBack of a frame that no transmitter here sent ----

abbrev sends : List Event
sends = Write 0 19 ∷ Write 0 7 ∷ Write 1 204 ∷ Write 2 4 ∷ Write 3 85 ∷ replicate 5 Tick

pub record Frames : Type 0 where
  pub starts : Starts 255 A sends Tick
  pub keeps : keeps_from A (and_then sends Tick) (replicate 959 Tick) ≡ true
  -- 160 pulses, one in 6 ticks from the start on; the next one comes when the last level has stood as long, and nothing is held for it
  pub whole : length (started_frame 255 A sends Tick) ≡ 160
  pub pulses : pulses_from 255 A sends (replicate 960 Tick) ≡ 160
  pub last : pulses_from 255 A (and_then sends Tick) (replicate 959 Tick) ≡ 159
  pub next : pulsed_after transmits A 255 (and_then sends Tick ++ replicate 959 Tick) Tick ≡ true
  pub empty : status_bit chip 255 A (and_then sends Tick ++ replicate 959 Tick) 2 ≡ true
  pub listens : Listens chip 255 A (listening true)
  pub undisturbed : each_of (undisturbed A) (arrives true 85) ≡ true
  pub found : lines_from A 255 (listening true) (arrives true 85)
      ≡ carried (at16 (format_after A (listening true))) (frame true (format_after A (listening true)) 7 85)

-- ---- by computing ----

pub record Wired : Type 0 where
  pub over_divider : Hears divider (programs 204)
  pub over_timer : Hears timer timed
  pub over_pin : Hears pin (programs 238 ++ Pins 251 ∷ [])
  pub frames : Frames

pub wired_examples : Wired
unfolding computing heard lines_over feeds_from lines_at lines_from fate_of ledger_from inputs_at inputs_from keeps_from pulses_over sent_over wired
wired_examples =
    record {
      over_divider = record {
        starts = record { pulse = refl; mode = refl; startable = record { idle = refl; enabled = refl; full = refl; clear = refl } };
        normal = refl;
        keeps = refl;
        whole = pulses_over_lem 255 A (until divider (programs 204)) (divider.at true ∷ rest divider) ∙ refl;
        sixteen = refl;
        formats = refl;
        listens = record { idle = record { hunts = refl; high = refl }; enabled = refl; empty = refl };
        undisturbed = refl;
        sent = sent_over_lem 255 A (until divider (programs 204)) (divider.at true ∷ rest divider) ∙ refl;
        found = lines_from_lem B 255 (before divider (programs 204)) (along divider levels_of85) ∙ refl;
        wire = refl;
        holding = refl;
        held = held_by _ refl;
      };
      over_timer = record {
        starts = record { pulse = refl; mode = refl; startable = record { idle = refl; enabled = refl; full = refl; clear = refl } };
        normal = refl;
        keeps = refl;
        whole = pulses_over_lem 255 A (until timer timed) (timer.at true ∷ rest timer) ∙ refl;
        sixteen = refl;
        formats = refl;
        listens = record { idle = record { hunts = refl; high = refl }; enabled = refl; empty = refl };
        undisturbed = refl;
        sent = sent_over_lem 255 A (until timer timed) (timer.at true ∷ rest timer) ∙ refl;
        found = lines_from_lem B 255 (before timer timed) (along timer levels_of85) ∙ refl;
        wire = refl;
        holding = refl;
        held = held_by _ refl;
      };
      over_pin = record {
        starts = record { pulse = refl; mode = refl; startable = record { idle = refl; enabled = refl; full = refl; clear = refl } };
        normal = refl;
        keeps = refl;
        whole = pulses_over_lem 255 A (until pin (programs 238 ++ Pins 251 ∷ [])) (pin.at true ∷ rest pin) ∙ refl;
        sixteen = refl;
        formats = refl;
        listens = record { idle = record { hunts = refl; high = refl }; enabled = refl; empty = refl };
        undisturbed = refl;
        sent = sent_over_lem 255 A (until pin (programs 238 ++ Pins 251 ∷ [])) (pin.at true ∷ rest pin) ∙ refl;
        found = lines_from_lem B 255 (before pin (programs 238 ++ Pins 251 ∷ [])) (along pin levels_of85) ∙ refl;
        wire = refl;
        holding = refl;
        held = held_by _ refl;
      };
      frames = record {
        starts = record { pulse = refl; mode = refl; startable = record { idle = refl; enabled = refl; full = refl; clear = refl } };
        keeps = refl;
        whole = refl;
        pulses = pulses_over_lem 255 A sends (replicate 960 Tick) ∙ refl;
        last = pulses_over_lem 255 A (and_then sends Tick) (replicate 959 Tick) ∙ refl;
        next = refl;
        empty = refl;
        listens = record { idle = record { hunts = refl; high = refl }; enabled = refl; empty = refl };
        undisturbed = refl;
        found = lines_from_lem A 255 (listening true) (arrives true 85) ∙ refl;
      };
    }
