-- Demand 2: ".. counter .. follow the Motorola manuals as document 01 fixes them.": what the events bring to the
-- counter/timer, and what is then seen of it after any events: the count, ISR bit 3 and the timer output. It is run by
-- itself, by the pulses that Counter tells; the laws of crate timer say what each does. Assumes nothing.
use Rattle.std.specs.Prelude.{ℕ, ◌*◌, ◌+◌, ◌/◌, ◌%◌, ◌≡◌, true, List, [], ◌∷◌, eqb}
use Rattle.format.specs.Pick.{pick}
use Rattle.timer_state.specs.declared.counting.Timer.{Timer}
use Rattle.timer_state.specs.Counting.{fresh_timer, with_preload, pulsed_by}
use Rattle.timer.specs.Timer.{started_of, stopped_of, mode_changed}
use Rattle.timer.specs.Modes.{timer_in}
use Rattle.byte_bits.specs.Bytes.{has_bit}
use Rattle.events.specs.declared.events.Event.{Event}
use Rattle.events.specs.declared.events.Event.TheVariants.{ChipReset, Read, Write, Acknowledge, Pins, Tick}
use Rattle.demands.specs.Chip.{Chip, and_then, over, shows, lines_after}
use Rattle.demands.specs.Registers.{opcr_then, acr_after, mode_after}
use Rattle.demands.specs.Counter.{pulse_at}

-- one event, in the mode that ACR 6-4 have chosen: a pulse of its clock, or none; a start, a stop, another mode
unfoldable pub timer_then : ℕ → List Event → Timer → Event → Timer
timer_then levels es t ChipReset = fresh_timer
timer_then levels es t (Read n) =
    pick (eqb n 14) (started_of t (mode_after es)) (pick (eqb n 15) (stopped_of t (mode_after es)) t)
timer_then levels es t (Write n byte) =
    pick (eqb n 4) (mode_changed t (acr_after es) byte)
    (pick (eqb n 6) (with_preload t (byte * 256 + t.preload % 256))
    (pick (eqb n 7) (with_preload t (t.preload / 256 * 256 + byte))
    t))
timer_then levels es t Acknowledge = t
timer_then levels es t (Pins x) = (pulsed_by t (mode_after es) (pulse_at (mode_after es) levels es (Pins x))).timer
timer_then levels es t Tick = (pulsed_by t (mode_after es) (pulse_at (mode_after es) levels es Tick)).timer

unfoldable pub timer_from : ℕ → Timer → List Event → List Event → Timer
timer_from levels t before [] = t
timer_from levels t before (e ∷ es) = timer_from levels (timer_then levels before t e) (and_then before e) es

-- the counter/timer after these events
abbrev pub timer_after : ℕ → List Event → Timer
timer_after levels es = timer_from levels fresh_timer [] es

pub record Counted (c : Chip) : Type 0 where
  -- "6, 7 count high, low"
  pub high : (levels : ℕ) (es : List Event) → shows c levels es 6 ≡ (timer_after levels es).count / 256
  pub low : (levels : ℕ) (es : List Event) → shows c levels es 7 ≡ (timer_after levels es).count % 256
  -- ISR bit 3
  pub bit : (levels : ℕ) (es : List Event) → has_bit (shows c levels es 5) 3 ≡ (timer_after levels es).ready
  -- "OPCR 3-2 = 01 puts the timer output on OP3"
  pub output : (levels : ℕ) (es : List Event) → eqb (over opcr_then 0 es / 4 % 4) 1 ≡ true
      → timer_in (mode_after es) ≡ true
      → has_bit (lines_after c levels es).op 3 ≡ (timer_after levels es).output
