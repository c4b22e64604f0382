-- Demand 2: ".. counter .. follow the Motorola manuals as document 01 fixes them.": the pulses of the counter/timer's
-- clock in each of its eight modes, and what it does with them from a start on. Assumes nothing.
use Rattle.std.specs.Prelude.{ℕ, suc, ◌+◌, ◌*◌, ◌-◌, ◌<◌, ◌/◌, ◌%◌, ◌≡◌, Bool, true, false, not, ◌&&◌, ◌||◌, List, []}
use Rattle.std.specs.Prelude.{◌∷◌, ◌++◌, eqb, leb}
use Rattle.format.specs.Pick.{pick}
use Rattle.format.specs.Digits.{bit}
use Rattle.byte_bits.specs.Bytes.{has_bit}
use Rattle.inputs.specs.Inputs.{rises_of}
use Rattle.timer.specs.Counts.{pulses_of}
use Rattle.timer.specs.Modes.{Comes, pulse_in, timer_in, ones}
use Rattle.events.specs.declared.events.Event.{Event}
use Rattle.events.specs.declared.events.Event.TheVariants.{ChipReset, Read, Write, Acknowledge, Pins, Tick}
use Rattle.demands.specs.Chip.{Chip, and_then, over, each_of, shows, lines_after}
use Rattle.demands.specs.Chip.Channel.{A, B}
use Rattle.demands.specs.Clocks.{one_after}
use Rattle.demands.specs.Registers.{opcr_then, mode_after}

-- "6, 7 .. preload high, low"
abbrev pub preload_then : ℕ → Event → ℕ
preload_then x ChipReset = 0
preload_then x (Read n) = x
preload_then x (Write n byte) = pick (eqb n 6) (byte * 256 + x % 256) (pick (eqb n 7) (x / 256 * 256 + byte) x)
preload_then x Acknowledge = x
preload_then x (Pins levels) = x
preload_then x Tick = x

abbrev pub preload_after : List Event → ℕ
preload_after es = over preload_then 0 es

-- ---- the pulses of its clock ----

-- the ticks and the rising edges of IP2 since a chip reset, and the pins' levels
pub record Elapsed : Type 0 where
  pub ticks : ℕ
  pub edges : ℕ
  pub levels : ℕ

-- "Both /16 phases always run, from 0 at a chip reset."
unfoldable pub elapsed_then : Elapsed → Event → Elapsed
elapsed_then x ChipReset = record { ticks = 0; edges = 0; levels = x.levels }
elapsed_then x (Read n) = x
elapsed_then x (Write n byte) = x
elapsed_then x Acknowledge = x
elapsed_then x (Pins levels) =
    pick (rises_of x.levels levels 2)
    (record { ticks = x.ticks; edges = suc x.edges; levels = levels })
    (record { ticks = x.ticks; edges = x.edges; levels = levels })
elapsed_then x Tick = record { ticks = suc x.ticks; edges = x.edges; levels = x.levels }

abbrev pub elapsed_after : ℕ → List Event → Elapsed
elapsed_after levels es = over elapsed_then (record { ticks = 0; edges = 0; levels = levels }) es

-- Which of the clocks that 01 names have a pulse with an event: a tick; a rising edge of IP2; each 16th of both; and a
-- 1X transmitter clock, of A and of B.
unfoldable pub comes : ℕ → List Event → Event → Comes
comes levels es ChipReset = ones false false
comes levels es (Read n) = ones false false
comes levels es (Write n byte) = ones false false
comes levels es Acknowledge = ones false false
comes levels es (Pins x) =
    let rises : Bool = rises_of (elapsed_after levels es).levels x 2 in
    record {
      ip2 = rises;
      ip2_by16 = rises && eqb (suc (elapsed_after levels es).edges % 16) 0;
      txca = one_after A levels es (Pins x);
      txcb = one_after B levels es (Pins x);
      ticks = false;
      ticks_by16 = false;
    }
comes levels es Tick =
    record {
      ip2 = false;
      ip2_by16 = false;
      txca = one_after A levels es Tick;
      txcb = one_after B levels es Tick;
      ticks = true;
      ticks_by16 = eqb (suc (elapsed_after levels es).ticks % 16) 0;
    }

-- whether the clock of a mode has: "ACR 6-4: 0-3 counter on rising IP2, TxCA 1X, TxCB 1X, ticks/16; 4-7 timer on rising
-- IP2, IP2/16, ticks, ticks/16." (crate timer, Modes)
abbrev pub pulse_at : ℕ → ℕ → List Event → Event → Bool
pulse_at mode levels es e = pulse_in mode (comes levels es e)

-- how many pulses it has with some events that come after others
unfoldable pub pulses_from : ℕ → ℕ → List Event → List Event → ℕ
pulses_from mode levels before [] = 0
pulses_from mode levels before (e ∷ es) =
    bit (pulse_at mode levels before e) + pulses_from mode levels (and_then before e) es

-- ---- the statement ----

-- no chip reset, no write of ACR or of a preload, no start and no stop
abbrev pub leaves_counter : Event → Bool
leaves_counter ChipReset = false
leaves_counter (Read n) = not (eqb n 14) && not (eqb n 15)
leaves_counter (Write n byte) = not (eqb n 4) && (not (eqb n 6) && not (eqb n 7))
leaves_counter Acknowledge = true
leaves_counter (Pins levels) = true
leaves_counter Tick = true

-- What loads it, after these events, in a mode: a start, or a write of ACR that changes bits 6-4 to it.
abbrev pub loads : ℕ → List Event → Event → Bool
loads mode es ChipReset = false
loads mode es (Read n) = eqb n 14 && eqb (mode_after es) mode
loads mode es (Write n byte) = eqb n 4 && (eqb (byte / 16 % 8) mode && not (eqb (mode_after es) mode))
loads mode es Acknowledge = false
loads mode es (Pins levels) = false
loads mode es Tick = false

-- the pulses that its clock has had since then
abbrev pub since : ℕ → ℕ → List Event → Event → List Event → ℕ
since mode levels es load fs = pulses_from mode levels (and_then es load) fs

-- After these events it is loaded in a mode, and then comes what leaves it alone. Preloads are made of bytes.
pub record Loaded (mode : ℕ) (es : List Event) (load : Event) (fs : List Event) : Type 0 where
  pub loaded : loads mode es load ≡ true
  pub preload : preload_after es < 65536
  pub left : each_of leaves_counter fs ≡ true

-- "OPCR 3-2 = 01 puts the timer output on OP3": its level there, were OPCR written so now
abbrev pub output_shown : Chip → ℕ → List Event → Bool
output_shown c levels es = has_bit (lines_after c levels (and_then es (Write 13 4))).op 3

-- the count as registers 6 and 7 show it
abbrev pub count_shown : Chip → ℕ → List Event → ℕ
count_shown c levels es = shows c levels es 6 * 256 + shows c levels es 7

pub record Counter (c : Chip) : Type 0 where
  -- "Each pulse takes 1 from the count, modulo 65,536"; "Counter: start loads the preload and runs"
  pub count : (levels mode : ℕ) (es fs : List Event) → Loaded mode es (Read 14) fs → timer_in mode ≡ false
      → count_shown c levels (es ++ Read 14 ∷ fs) ≡ (preload_after es + 65535 * since mode levels es (Read 14) fs) % 65536
  -- "reaching 0 is terminal", so a preload of 0 stands for 65,536; "terminal sets ISR bit 3, counting goes on"
  pub terminal : (levels mode : ℕ) (es fs : List Event) → Loaded mode es (Read 14) fs → timer_in mode ≡ false
      → has_bit (shows c levels (es ++ Read 14 ∷ fs) 5) 3
      ≡ (has_bit (shows c levels es 5) 3 || leb (pulses_of (preload_after es)) (since mode levels es (Read 14) fs))
  -- "stop halts"; "A change of ACR 6-4 reloads, .. and runs exactly in timer modes."
  pub halts : (levels : ℕ) (es fs : List Event) → timer_in (mode_after es) ≡ false
      → each_of leaves_counter fs ≡ true
      → count_shown c levels (es ++ Read 15 ∷ fs) ≡ count_shown c levels es
  pub changed : (levels mode byte : ℕ) (es fs : List Event) → loads mode es (Write 4 byte) ≡ true → timer_in mode ≡ false
      → each_of leaves_counter fs ≡ true → count_shown c levels (es ++ Write 4 byte ∷ fs) ≡ preload_after es
  -- "Timer: always runs; terminal toggles and reloads": started, or by a change of mode
  pub reloads : (levels mode : ℕ) (es fs : List Event) (load : Event) → Loaded mode es load fs → timer_in mode ≡ true
      → count_shown c levels (es ++ load ∷ fs)
      ≡ (pulses_of (preload_after es) - since mode levels es load fs % pulses_of (preload_after es)) % 65536
  -- "start reloads and drives the output high"; "a toggle to high sets ISR bit 3": as the load left it, or the second
  -- countdown has ended since
  pub toggles : (levels mode : ℕ) (es fs : List Event) (load : Event) → Loaded mode es load fs → timer_in mode ≡ true
      → has_bit (shows c levels (es ++ load ∷ fs) 5) 3
      ≡ (has_bit (shows c levels (and_then es load) 5) 3
      || leb (2 * pulses_of (preload_after es)) (since mode levels es load fs))
  -- "OPCR 3-2 = 01 puts the timer output on OP3"
  pub output : (levels mode : ℕ) (es fs : List Event) (load : Event) → Loaded mode es load fs → timer_in mode ≡ true
      → eqb (over opcr_then 0 (es ++ load ∷ fs) / 4 % 4) 1 ≡ true
      → has_bit (lines_after c levels (es ++ load ∷ fs)).op 3
      ≡ eqb (since mode levels es load fs / pulses_of (preload_after es) % 2) 0
  -- "stop clears the bit": of a counter and of a timer, whose count and output go on as if there had been no stop
  -- ("stop clears the bit only")
  pub clears : (levels : ℕ) (es : List Event) → has_bit (shows c levels (and_then es (Read 15)) 5) 3 ≡ false
  pub runs_on : (levels : ℕ) (es fs : List Event) → timer_in (mode_after es) ≡ true
      → each_of leaves_counter fs ≡ true
      → (count_shown c levels (es ++ Read 15 ∷ fs) ≡ count_shown c levels (es ++ fs))
      × (eqb (over opcr_then 0 (es ++ fs) / 4 % 4) 1 ≡ true
      → has_bit (lines_after c levels (es ++ Read 15 ∷ fs)).op 3 ≡ has_bit (lines_after c levels (es ++ fs)).op 3)
  -- order 4: "a start that takes the output from low to high does set ISR bit 3": in a timer mode; else a start neither
  -- sets nor clears it
  pub starts : (levels : ℕ) (es : List Event)
      → has_bit (shows c levels (and_then es (Read 14)) 5) 3
      ≡ (has_bit (shows c levels es 5) 3 || (timer_in (mode_after es) && not (output_shown c levels es)))
  -- "A change of ACR 6-4 reloads, .. setting no bit": nor does it clear it, nor does any write of ACR
  pub sets : (levels byte : ℕ) (es : List Event)
      → has_bit (shows c levels (and_then es (Write 4 byte)) 5) 3 ≡ has_bit (shows c levels es 5) 3
  -- a write of ACR that leaves bits 6-4, or of a preload, leaves the count
  pub kept : (levels byte : ℕ) (es : List Event) → eqb (mode_after es) (byte / 16 % 8) ≡ true
      → count_shown c levels (and_then es (Write 4 byte)) ≡ count_shown c levels es
  pub preloads : (levels byte : ℕ) (es : List Event)
      → (count_shown c levels (and_then es (Write 6 byte)) ≡ count_shown c levels es)
      × (count_shown c levels (and_then es (Write 7 byte)) ≡ count_shown c levels es)
