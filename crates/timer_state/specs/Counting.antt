-- The counter/timer as it counts. A mode is ACR bits 6-4; one above 7, which they cannot make, is a timer without a
-- clock. Assumes nothing.
use Rattle.std.specs.Prelude.{ℕ, ◌+◌, ◌/◌, ◌%◌, Bool, true, false, not, ◌&&◌, ◌||◌, eqb, leb}
use Rattle.format.specs.declared.counts.Pulses.{Pulses}
use Rattle.format.specs.declared.counts.Ticks.{Ticks}
use Rattle.format.specs.Pick.{pick}
use Rattle.timer_state.specs.declared.counting.Counted.{Counted}
use Rattle.timer_state.specs.declared.counting.Timer.{Timer}

-- "preload, count, phase, flag .. 0, counter stopped, timer output high"
abbrev pub fresh_timer : Timer
fresh_timer =
    record {
      preload = 0;
      count = 0;
      running = false;
      output = true;
      ready = false;
      ticks = record { 0 = 0 };
      edges = record { 0 = 0 };
    }

-- ---- a timer with another part ----

-- another preload; the count stays
abbrev pub with_preload : Timer → ℕ → Timer
with_preload t n =
    record {
      preload = n;
      count = t.count;
      running = t.running;
      output = t.output;
      ready = t.ready;
      ticks = t.ticks;
      edges = t.edges;
    }

-- another count and output
abbrev pub with_count : Timer → ℕ → Bool → Timer
with_count t n high =
    record {
      preload = t.preload;
      count = n;
      running = t.running;
      output = high;
      ready = t.ready;
      ticks = t.ticks;
      edges = t.edges;
    }

-- running or not
abbrev pub with_running : Timer → Bool → Timer
with_running t x =
    record {
      preload = t.preload;
      count = t.count;
      running = x;
      output = t.output;
      ready = t.ready;
      ticks = t.ticks;
      edges = t.edges;
    }

-- another ISR bit 3
abbrev pub with_ready : Timer → Bool → Timer
with_ready t x =
    record {
      preload = t.preload;
      count = t.count;
      running = t.running;
      output = t.output;
      ready = x;
      ticks = t.ticks;
      edges = t.edges;
    }

-- other /16 phases
abbrev pub with_phases : Timer → Ticks → Pulses → Timer
with_phases t x y =
    record {
      preload = t.preload;
      count = t.count;
      running = t.running;
      output = t.output;
      ready = t.ready;
      ticks = x;
      edges = y;
    }

-- ---- the modes ----

-- ACR bits 6-4
abbrev pub mode_of : ℕ → ℕ
mode_of acr = acr / 16 % 8

-- "0-3 counter .. 4-7 timer"
abbrev pub is_timer : ℕ → Bool
is_timer mode = leb 4 mode

-- "ACR 6-4: 0-3 counter on rising IP2, TxCA 1X, TxCB 1X, ticks/16; 4-7 timer on rising IP2, IP2/16, ticks, ticks/16.":
-- what a tick pulses, if it is a 16th or not
abbrev pub tick_pulses : ℕ → Bool → Bool
tick_pulses mode sixteenth = eqb mode 6 || ((eqb mode 3 || eqb mode 7) && sixteenth)

-- what a rising edge of IP2 pulses
abbrev pub edge_pulses : ℕ → Bool → Bool
edge_pulses mode sixteenth = (eqb mode 0 || eqb mode 4) || (eqb mode 5 && sixteenth)

-- what the 1X transmitter clocks pulse
abbrev pub transmitter_pulses : ℕ → Bool → Bool → Bool
transmitter_pulses mode a b = (eqb mode 1 && a) || (eqb mode 2 && b)

-- ---- a pulse ----

-- "Each pulse takes 1 from the count, modulo 65,536"
abbrev pub counted_down : ℕ → ℕ
counted_down n = (n + 65535) % 65536

-- "reaching 0 is terminal. Counter: .. terminal sets ISR bit 3, counting goes on"
unfoldable pub counter_pulsed : Timer → Timer
counter_pulsed t =
    pick t.running
    (with_ready (with_count t (counted_down t.count) t.output) (t.ready || eqb (counted_down t.count) 0))
    t

-- "Timer: always runs; terminal toggles and reloads; a toggle to high sets ISR bit 3"
unfoldable pub timer_pulsed : Timer → Counted
timer_pulsed t =
    pick (eqb (counted_down t.count) 0)
    (record {
      timer = with_ready (with_count t t.preload (not t.output)) (t.ready || not t.output);
      toggled = not t.output;
    })
    (record { timer = with_count t (counted_down t.count) t.output; toggled = false })

-- where its clock has a pulse, and where it has none
unfoldable pub pulsed_by : Timer → ℕ → Bool → Counted
pulsed_by t mode pulse =
    pick pulse
    (pick (is_timer mode) (timer_pulsed t) (record { timer = counter_pulsed t; toggled = false }))
    (record { timer = t; toggled = false })
