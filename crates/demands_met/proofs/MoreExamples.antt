-- More of what the statements suppose is met by some events, by computing the definitions, and with what they then say of them: what leaves the
-- counter/timer, its toggle as a clock, the 1X transmitter clocks, and CTS. Assumes nothing.
use Prim.Native.Nat.{ℕ, zero, suc, ◌/◌, ◌%◌}
use mathlib.Core.Path.{◌≡◌, refl}
use mathlib.Core.Bool.{true, false}
use mathlib.Core.List.{List, [], ◌∷◌, ◌++◌}
use lib.Dec.{eqb}
use Rattle.events.specs.declared.events.Event.{Event}
use Rattle.events.specs.declared.events.Event.TheVariants.{Read, Write, Pins, Tick}
use Rattle.clocks.specs.Pulses.Side.{transmits}
use Rattle.timer.specs.Modes.{timer_in}
use Rattle.transmitter.specs.Frames.{free}
use Rattle.byte_bits.specs.Bytes.{has_bit}
use Rattle.demands.specs.Chip.{and_then, shows, status_bit}
use Rattle.demands.specs.Chip.Channel.{A}
use Rattle.demands.specs.Told.{levels_after, programmed}
use Rattle.demands.specs.Clocks.{pulsed_after, one_after}
use Rattle.demands.specs.Registers.{mode_after}
use Rattle.demands.specs.Counter.{output_shown, count_shown}
use Rattle.demands.specs.Counted.{timer_then, timer_from, timer_after}
use Rattle.demands.specs.Pulses.{clocks, code_after, sent_since, sent_after}
use Rattle.demands.specs.Sending.{inputs_at, inputs_from, sender_after}
use Rattle.demands.proofs.Laws.Looks.{chip}
use Rattle.demands_met.proofs.Examples.{ticks, coded}
use Rattle.demands.proofs.Computing.{computing}

-- ---- the events ----

-- a counter on ticks/16, preload 3, has reached its terminal
abbrev rung : List Event
rung = Write 4 48 ∷ Write 6 0 ∷ Write 7 3 ∷ Read 14 ∷ ticks 48

-- code 13, and a timer on ticks that is loaded with 1; a preload of 2 is written later
abbrev turned : ℕ → List Event
turned n = Write 1 221 ∷ Write 7 1 ∷ Write 4 96 ∷ Write 7 2 ∷ ticks n

-- IP3 falls, with IP0 high and with IP0 low; and it falls and rises so often
abbrev falling : Event
falling = Pins 247

abbrev falling_clear : Event
falling_clear = Pins 246

abbrev falls : ℕ → List Event
falls zero = []
falls (suc n) = falling ∷ Pins 255 ∷ falls n

-- transmitter A at 1X, with CTS chosen, and 85 to send
abbrev held : List Event
held = Write 0 19 ∷ Write 0 23 ∷ Write 1 255 ∷ Write 2 4 ∷ Write 3 85 ∷ []

-- ---- Counter ----

pub record Left : Type 0 where
  -- the bit is set, and stays: at a start, and at a write of ACR to another mode
  pub set : has_bit (shows chip 255 rung 5) 3 ≡ true
  pub starts : has_bit (shows chip 255 (and_then rung (Read 14)) 5) 3 ≡ true
  -- order 4: a timer that has turned low, its bit not set: a start sets it; started again, with its bit cleared, it does not
  pub low : (output_shown chip 255 (turned 2) ≡ false) × (has_bit (shows chip 255 (turned 2) 5) 3 ≡ false)
  pub rises : has_bit (shows chip 255 (and_then (turned 2) (Read 14)) 5) 3 ≡ true
  pub high : has_bit (shows chip 255 (turned 2 ++ Read 14 ∷ Read 15 ∷ Read 14 ∷ []) 5) 3 ≡ false
  pub changes : has_bit (shows chip 255 (and_then rung (Write 4 96)) 5) 3 ≡ true
  -- a write of ACR that leaves the mode, and of a preload: the count of 0 stays
  pub same : eqb (mode_after rung) (176 / 16 % 8) ≡ true
  pub kept : (count_shown chip 255 (and_then rung (Write 4 176)) ≡ 0) × (count_shown chip 255 (and_then rung (Write 7 5)) ≡ 0)

-- ---- Pulses, Ones ----

pub record Turned : Type 0 where
  -- the output is low from the first tick, and high again from the third
  pub code : code_after transmits A (turned 2) ≡ 13
  pub mode : timer_in (mode_after (turned 2)) ≡ true
  pub low : (timer_after 255 (turned 2)).output ≡ false
  pub high : (timer_after 255 (turned 3)).output ≡ true
  pub pulse : pulsed_after transmits A 255 (turned 2) Tick ≡ true

pub record OneClock : Type 0 where
  -- 16X: the 16th pulse since the write of CSR, and not the 15th
  pub sixteen : code_after transmits A (coded 238) ≡ 14
  pub sent : sent_after pulsed_after A 255 (coded 238 ++ falls 3 ++ coded 238 ++ falls 15) ≡ 15
  pub at_16 : one_after A 255 (coded 238 ++ falls 3 ++ coded 238 ++ falls 15) falling ≡ true
  pub at_15 : one_after A 255 (coded 238 ++ falls 3 ++ coded 238 ++ falls 14) falling ≡ false
  -- 1X: each
  pub each : code_after transmits A (coded 255) ≡ 15
  pub first : one_after A 255 (coded 255) falling ≡ true

-- ---- Sends ----

pub record Waited : Type 0 where
  -- CTS is chosen and high at a pulse: what is held stays
  pub chosen : has_bit (programmed A held).mr2 4 ≡ true
  pub high : has_bit (levels_after 255 (and_then held falling)) 0 ≡ true
  pub pulse : (clocks falling ≡ true) × (pulsed_after transmits A 255 held falling ≡ true)
  pub stays : (status_bit chip 255 A held 2 ≡ false) × (status_bit chip 255 A (and_then held falling) 2 ≡ false)
  -- and low: the transmitter is idle and enabled, and what is held goes
  pub low : has_bit (levels_after 255 (and_then held falling_clear)) 0 ≡ false
  pub clear : pulsed_after transmits A 255 held falling_clear ≡ true
  pub idle : (free (sender_after 255 A held) ≡ true) × ((programmed A held).transmits ≡ true)
  pub goes : status_bit chip 255 A (and_then held falling_clear) 2 ≡ true

-- ---- by computing ----

pub record MoreExamples : Type 0 where
  pub left : Left
  pub turned : Turned
  pub one_clock : OneClock
  pub waited : Waited

pub more_examples : MoreExamples
unfolding computing timer_then timer_from sent_since inputs_at inputs_from
more_examples =
    record {
      left = record { set = refl; starts = refl; low = (refl, refl); rises = refl; high = refl; changes = refl; same = refl; kept = (refl, refl) };
      turned = record { code = refl; mode = refl; low = refl; high = refl; pulse = refl };
      one_clock = record { sixteen = refl; sent = refl; at_16 = refl; at_15 = refl; each = refl; first = refl };
      waited = record {
        chosen = refl;
        high = refl;
        pulse = (refl, refl);
        stays = (refl, refl);
        low = refl;
        clear = refl;
        idle = (refl, refl);
        goes = refl;
      };
    }
