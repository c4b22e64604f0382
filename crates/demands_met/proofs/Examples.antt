-- No statement of the demands is empty: what each one supposes is met by some events, by computing the definitions, and most often with what it then
-- says of them. (What is supposed of a wire: Wired.) Assumes nothing.
use Prim.Native.Nat.{ℕ, ◌%◌, ◌/◌}
use mathlib.Core.Path.{◌≡◌, refl, ◌∙◌, ap}
use mathlib.Core.Bool.{Bool, true, false, ◌||◌}
use mathlib.Core.List.{List, [], ◌∷◌, ◌++◌, map}
use native.Mathlib.Omega.{arith}
use lib.Dec.{eqb}
use lib.ListN.{replicate}
use Rattle.character.specs.Character.{clean}
use Rattle.character.specs.declared.character.Character.{Character}
use Rattle.receiver_state.specs.declared.arrivals.Receiver.{Receiver}
use Rattle.receiver.specs.Delivery as Receivers
use Rattle.receiver.specs.Delivery.{Ledger, Fate, live, known, as_arrived}
use Rattle.receiver.specs.Delivery.Fate.{WasRead, Held}
use Rattle.events.specs.declared.events.Event.{Event}
use Rattle.events.specs.declared.events.Event.TheVariants.{Read, Write, Acknowledge, Pins, Tick}
use Rattle.format.specs.Format.{mr1_not_modelled, mr2_not_modelled}
use Rattle.outputs.specs.Outputs.{opcr_not_modelled}
use Rattle.request.specs.Request.{length_asked}
use Rattle.clocks.specs.Pulses.Side.{receives, transmits}
use Rattle.timer.specs.Modes.{timer_in}
use Rattle.format.specs.Pick.{pick}
use Rattle.queue.specs.Queue.{held_of}
use Rattle.byte_bits.specs.Bytes.{has_bit}
use Rattle.front.specs.Front.{front_at}
use Rattle.chip_device.specs.Device.{fresh_device, is_sound_of}
use Rattle.events.specs.Command.{command_forbidden}
use Rattle.chip_laws.specs.Quiet.{only_looks}
use Rattle.chip_laws.specs.Table.{row, First}
use Rattle.chip_laws.proofs.Sound.{fresh_sound}
use Rattle.chip_laws.proofs.Table.{table}
use Rattle.demands.specs.Chip.{over, and_then, shows, status_bit, lines_after, each_of}
use Rattle.demands.specs.Chip.Channel.{A}
use Rattle.demands.specs.Told.{programmed}
use Rattle.demands.specs.Clocks as in_demands
use Rattle.demands.specs.Clocks.{pulsed_after}
use Rattle.demands.specs.Demand1.{request_frame}
use Rattle.demands.specs.Registers.{ivr_after, mode_after, opcr_then, reads_nothing}
use Rattle.demands.specs.Counter.{leaves_counter, loads, since, Loaded, count_shown}
use Rattle.demands.specs.Pulses.{ticks_after, clocks, code_after}
use Rattle.demands.specs.Cases.{heard, five_arrive}
use Rattle.demands.specs.Delivery.{ledger, read_from, held}
use Rattle.demands.proofs.Laws.Run.{run_at, run_sound, feeds_from}
use Rattle.demands.proofs.Laws.Buffer.{held_queue}
use Rattle.demands.proofs.Laws.Looks.{chip, asking}
use Rattle.demands.proofs.Delivery.{receiver_after_lem, ledger_after, reads_after}
use Rattle.demands.proofs.Computing.{computing}

abbrev pub ticks : ℕ → List Event
ticks n = replicate n Tick

-- ---- the events ----

-- ACR 6-4 and the preload; the timer's output is chosen for OP3; and a start
abbrev counts : ℕ → ℕ → List Event
counts acr preload = Write 4 acr ∷ Write 6 0 ∷ Write 7 preload ∷ []

abbrev timed : List Event
timed = Write 13 4 ∷ counts 96 2

abbrev started : List Event → List Event → List Event
started es fs = es ++ Read 14 ∷ fs

-- the mode written last: the write loads the preload
abbrev preset : List Event
preset = Write 13 4 ∷ Write 6 0 ∷ Write 7 2 ∷ []

-- IP2 falls and rises, and a tick
abbrev edge : List Event
edge = Pins 251 ∷ Pins 255 ∷ Tick ∷ []

-- a write of channel A's mode register that is refused: at MR2 after another, at MR1 before
abbrev refuses_mode : List Event → ℕ → Bool
refuses_mode es byte = pick (in_demands.side_of A (run_at 255 es).front).moved (mr2_not_modelled byte) (mr1_not_modelled byte)

-- both sides of channel A on one code
abbrev pub coded : ℕ → List Event
coded csr = Write 1 csr ∷ []

-- ---- Reached, Unaltered, Demand1 ----

pub record Sound : Type 0 where
  -- a sound device, and any that a run reaches
  pub fresh : is_sound_of fresh_device ≡ true
  pub run : (es : List Event) → is_sound_of (run_at 255 es) ≡ true
  -- the table: a row that applies first, and an event to which none does (each number: Examples of the crate chip_laws)
  pub row_2 : First 2 fresh_device (Read 16)
  pub no_row : (k : ℕ) → row k fresh_device (Write 0 19) ≡ false

pub record Refused : Type 0 where
  pub above : (chip 255 [] (Read 16)).number ≡ 2
  pub command : (command_forbidden 3 ≡ true) × (command_forbidden 12 ≡ true)
  -- MR1 bit 7 at MR1, and MR2 bit 5 at MR2, which at MR1 is modelled; OPCR bit 0
  pub mr1 : refuses_mode [] 128 ≡ true
  pub mr2 : (refuses_mode (Write 0 19 ∷ []) 32 ≡ true) × (refuses_mode [] 32 ≡ false)
  pub opcr : opcr_not_modelled 1 ≡ true

-- a frame request not modelled, and one that is; its length, a space too short by one, and one just long enough
pub record Requested : Type 0 where
  pub setting : (mr1_not_modelled 128 || mr2_not_modelled 7) ≡ true
  pub modelled : (mr1_not_modelled 19 || mr2_not_modelled 7) ≡ false
  pub length : (length_asked 19 7).0 ≡ 160
  pub short : (request_frame 19 7 85 (replicate 159 0)).0.number ≡ 8
  pub given : (request_frame 19 7 85 (replicate 160 0)).0.number ≡ 0

-- ---- Registers, Interrupts, Outputs, Received ----

pub record Shown : Type 0 where
  -- an acknowledge that is accepted, and IVR; an event that reads nothing; a register that is only looked at; a disabled transmitter
  pub accepted : (chip 255 asking Acknowledge).number ≡ 0
  pub vector : ((chip 255 asking Acknowledge).byte ≡ 15) × (ivr_after asking ≡ 15)
  pub unread : reads_nothing Tick ≡ true
  pub looks : only_looks 1 ≡ true
  pub disabled : (programmed A []).transmits ≡ false
  -- an empty queue; MR1 without block errors, and with them
  pub empty : status_bit chip 255 A [] 0 ≡ false
  pub character : has_bit (programmed A (Write 0 19 ∷ [])).mr1 5 ≡ false
  pub block : has_bit (programmed A (Write 0 51 ∷ [])).mr1 5 ≡ true

pub record OnPin3 : Type 0 where
  -- OPCR 3-2 = 00; and 01, in counter mode, where OP3 is low after the terminal
  pub plain : eqb (over opcr_then 0 [] / 4 % 4) 1 ≡ false
  pub chosen : eqb (over opcr_then 0 (Write 13 4 ∷ []) / 4 % 4) 1 ≡ true
  pub counter : timer_in (mode_after (Write 13 4 ∷ [])) ≡ false
  pub low : has_bit (lines_after chip 255 (started (Write 13 4 ∷ counts 48 3) (ticks 48))).op 3 ≡ false

-- ---- Counter ----

pub record Loads : Type 0 where
  -- a counter on ticks/16, preload 3; one on IP2; a timer on ticks, preload 2, loaded by a start, and by a change of mode
  pub counter : Loaded 3 (counts 48 3) (Read 14) (ticks 48)
  pub edges : Loaded 0 (counts 0 3) (Read 14) edge
  pub timer : Loaded 6 timed (Read 14) (ticks 4)
  pub change : Loaded 6 preset (Write 4 96) (ticks 4)
  pub clock : Loaded 6 (coded 221 ++ timed) (Read 14) (and_then (ticks 3) Tick)

pub record Counted : Type 0 where
  -- three pulses in 48 ticks, which is the terminal, and two in 47; an edge is a pulse, a tick is none
  pub three : since 3 255 (counts 48 3) (Read 14) (ticks 48) ≡ 3
  pub terminal : has_bit (shows chip 255 (started (counts 48 3) (ticks 48)) 5) 3 ≡ true
  pub count : count_shown chip 255 (started (counts 48 3) (ticks 47)) ≡ 1
  pub edges : since 0 255 (counts 0 3) (Read 14) edge ≡ 1
  -- one that is stopped, or whose mode is changed, does not count
  pub stopped : (timer_in (mode_after (counts 48 3)) ≡ false) × (each_of leaves_counter (ticks 48) ≡ true)
  pub changed : (loads 3 (counts 0 3) (Write 4 48) ≡ true) × (count_shown chip 255 (counts 0 3 ++ Write 4 48 ∷ ticks 48) ≡ 3)

pub record Timed : Type 0 where
  -- four pulses in 4 ticks, which set the bit, and three do not
  pub four : (since 6 255 timed (Read 14) (ticks 4) ≡ 4) × (since 6 255 preset (Write 4 96) (ticks 4) ≡ 4)
  pub toggled : has_bit (shows chip 255 (started timed (ticks 4)) 5) 3 ≡ true
  pub not_yet : has_bit (shows chip 255 (started timed (ticks 3)) 5) 3 ≡ false
  pub by_change : has_bit (shows chip 255 (preset ++ Write 4 96 ∷ ticks 4) 5) 3 ≡ true
  -- its output on OP3 is low from the second, and high again from the fourth
  pub chosen : eqb (over opcr_then 0 (started timed (ticks 4)) / 4 % 4) 1 ≡ true
  pub low : has_bit (lines_after chip 255 (started timed (ticks 3))).op 3 ≡ false
  pub high : has_bit (lines_after chip 255 (started timed (ticks 4))).op 3 ≡ true
  pub stopped : timer_in (mode_after timed) ≡ true

-- ---- Pulses ----

pub record Clocked : Type 0 where
  -- a code below 13: each 24th tick from the write of CSR
  pub fixed : code_after receives A (coded 187) ≡ 11
  pub at_24 : pulsed_after receives A 255 (ticks 5 ++ coded 187 ++ ticks 23) Tick ≡ true
  pub at_23 : pulsed_after receives A 255 (ticks 5 ++ coded 187 ++ ticks 22) Tick ≡ false
  pub elapsed : ticks_after A (ticks 5 ++ coded 187 ++ ticks 23) ≡ 23
  -- one above: the receiver on rising IP4, the transmitter on falling IP3; and only a tick or a pin event pulses
  pub pin : code_after transmits A (coded 238) ≡ 14
  pub rises : pulsed_after receives A 255 (coded 238 ++ Pins 239 ∷ []) (Pins 255) ≡ true
  pub falls : pulsed_after transmits A 255 (coded 238) (Pins 247) ≡ true
  pub other : pulsed_after transmits A 255 (coded 238 ++ Pins 247 ∷ []) (Pins 255) ≡ false
  pub only : clocks (Read 14) ≡ false

pub record ByTimer : Type 0 where
  -- 13 in counter mode: no pulse, at the terminal either
  pub counter : (code_after transmits A (coded 221) ≡ 13) × (timer_in (mode_after (coded 221)) ≡ false)
  pub none : pulsed_after transmits A 255 (coded 221 ++ started (counts 48 3) (ticks 47)) Tick ≡ false
  -- 13 in timer mode after a start: every second terminal
  pub code : code_after transmits A (started (coded 221 ++ timed) (ticks 3)) ≡ 13
  pub toggle : pulsed_after transmits A 255 (started (coded 221 ++ timed) (ticks 3)) Tick ≡ true
  pub first : pulsed_after transmits A 255 (started (coded 221 ++ timed) (ticks 1)) Tick ≡ false

-- ---- demand 3 ----

-- 1, 2, 3, 4 and 5 arrive, the fifth's start while the fourth waits; then one is read
abbrev read_one : List Event
read_one = five_arrive false ++ Read 3 ∷ []

abbrev arrived : List Character
arrived = clean 1 ∷ clean 2 ∷ clean 3 ∷ clean 4 ∷ clean 5 ∷ []

abbrev fates : List (Character × Fate)
fates = (clean 1, WasRead) ∷ (clean 2, Held) ∷ (clean 3, Held) ∷ (clean 5, Held) ∷ []

pub record Fated : Type 0 where
  pub all : map as_arrived (ledger A 255 read_one).entries ≡ arrived
  pub live : map known (live (ledger A 255 read_one).entries) ≡ fates
  pub overran : (ledger A 255 read_one).overran ≡ true
  pub read : read_from chip 255 A [] read_one ≡ clean 1 ∷ []
  pub held : held chip 255 A read_one ≡ clean 2 ∷ clean 3 ∷ clean 5 ∷ []

-- ---- by computing ----

pub record Examples : Type 0 where
  pub sound : Sound
  pub refused : Refused
  pub requested : Requested
  pub shown : Shown
  pub on_pin3 : OnPin3
  pub loads : Loads
  pub counted : Counted
  pub timed : Timed
  pub clocked : Clocked
  pub by_timer : ByTimer
  pub fated : Fated

pub examples : Examples
unfolding computing heard feeds_from
examples =
    let written : ledger A 255 read_one ≡ Receivers.ledger (feeds_from A (front_at 255) read_one) = ledger_after A 255 read_one in
    record {
      sound = record {
        fresh = fresh_sound;
        run = run_sound 255;
        row_2 = table.only fresh_device (Read 16) (λ h. let two : 2 ≡ 0 = h in omega arith);
        no_row = table.free fresh_device (Write 0 19) refl;
      };
      refused = record { above = refl; command = (refl, refl); mr1 = refl; mr2 = (refl, refl); opcr = refl };
      requested = record { setting = refl; modelled = refl; length = refl; short = refl; given = refl };
      shown = record { accepted = refl; vector = (refl, refl); unread = refl; looks = refl; disabled = refl; empty = refl; character = refl; block = refl };
      on_pin3 = record { plain = refl; chosen = refl; counter = refl; low = refl };
      loads = record {
        counter = record { loaded = refl; preload = omega arith; left = refl };
        edges = record { loaded = refl; preload = omega arith; left = refl };
        timer = record { loaded = refl; preload = omega arith; left = refl };
        change = record { loaded = refl; preload = omega arith; left = refl };
        clock = record { loaded = refl; preload = omega arith; left = refl };
      };
      counted = record { three = refl; terminal = refl; count = refl; edges = refl; stopped = (refl, refl); changed = (refl, refl) };
      timed = record { four = (refl, refl); toggled = refl; not_yet = refl; by_change = refl; chosen = refl; low = refl; high = refl; stopped = refl };
      clocked = record { fixed = refl; at_24 = refl; at_23 = refl; elapsed = refl; pin = refl; rises = refl; falls = refl; other = refl; only = refl };
      by_timer = record { counter = (refl, refl); none = refl; code = refl; toggle = refl; first = refl };
      fated = record {
        all = ap (λ (l : Ledger). map as_arrived l.entries) written ∙ refl;
        live = ap (λ (l : Ledger). map known (live l.entries)) written ∙ refl;
        overran = ap (λ (l : Ledger). l.overran) written ∙ refl;
        read = reads_after A 255 read_one ∙ refl;
        held = held_queue 255 A read_one ∙ ap (λ (r : Receiver). held_of r.queue) (receiver_after_lem A 255 read_one) ∙ refl;
      };
    }
