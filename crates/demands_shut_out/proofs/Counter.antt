-- What is said of the counter/timer shuts wrong chips out: from a start on, and after any events. A law is taken at a few events, where what the wrong
-- one answers and what the law says are computed, and differ. Assumes nothing.
use Prim.Native.Nat.{ℕ, ◌*◌, ◌<◌}
use mathlib.Core.Path.{refl, sym}
use mathlib.Core.Bool.{true, false, not, ◌&&◌, ◌||◌, true≢false}
use mathlib.Core.List.{List, [], ◌∷◌, ◌++◌}
use native.Mathlib.Omega.{arith}
use borrow.Author.Tests.{eqb-false}
use lib.Dec.{eqb}
use lib.ListN.{replicate}
use Rattle.format.specs.Pick.{pick}
use Rattle.timer_state.specs.declared.counting.Timer.{Timer}
use Rattle.timer_state.specs.Counting.{with_count, with_running, with_ready, with_phases, mode_of, is_timer}
use Rattle.front.specs.Front.{with_timer}
use Rattle.events.specs.declared.events.Event.{Event}
use Rattle.events.specs.declared.events.Event.TheVariants.{ChipReset, Read, Write, Pins, Tick}
use Rattle.chip_device.specs.declared.device.Device.{Device}
use Rattle.chip_laws.specs.Table.{Step}
use Rattle.chip_laws.proofs.Wrong.{is_reset, is_read_of}
use Rattle.chip_step.specs.Chip.{step_of}
use Rattle.demands.specs.Chip.{chip_of}
use Rattle.demands.specs.Chip.Channel.{A}
use Rattle.demands.specs.Counter.{Loaded, Counter}
use Rattle.demands.specs.Counted.{timer_then, timer_from, Counted}
use Rattle.demands.specs.Sending.{inputs_at, inputs_from, echo_then, echo_from, Transmits}
use Rattle.demands_shut_out.proofs.Chips.{is_write_of, is_clock, with_front, with_sender, never_terminal, counts_nothing, leads_to, stops_nothing}
use Rattle.demands.proofs.Computing.{computing}

-- ---- more that are wrong ----

abbrev timer_of : Device → Timer
timer_of d = d.front.timer

abbrev timer_instead : Device → Timer → Device
timer_instead d t = with_front d (with_timer d.front t)

abbrev mode_in : Device → ℕ
mode_in d = mode_of d.front.acr

-- "Chip reset: .. counter stopped": it runs
abbrev reset_runs : Step
reset_runs = leads_to (λ d e x. pick (is_reset e) (timer_instead x (with_running (timer_of x) true)) x)

-- "start loads the preload": so does a write of it
abbrev preload_counts : Step
preload_counts =
    leads_to
    (λ d e x. pick (is_write_of 6 e || is_write_of 7 e) (timer_instead x (with_count (timer_of x) (timer_of x).preload (timer_of x).output)) x)

-- "0-3 counter on rising IP2, TxCA 1X, TxCB 1X, ..": in modes 1 and 2 nothing is counted
abbrev transmitters_uncounted : Step
transmitters_uncounted =
    leads_to
    (λ d e x. pick (is_clock e && (eqb (mode_in d) 1 || eqb (mode_in d) 2))
    (timer_instead x (with_ready (with_count (timer_of x) (timer_of d).count (timer_of d).output) (timer_of d).ready))
    x)

-- "Timer: .. stop clears the bit only": it halts until a start or another mode, though the /16 phases go on
abbrev stop_halts : Step
stop_halts =
    leads_to
    (λ d e x. pick (is_timer (mode_in d))
    (pick (is_read_of 15 e) (timer_instead x (with_running (timer_of x) false))
    (pick (is_read_of 14 e) (timer_instead x (with_running (timer_of x) true))
    (pick (is_clock e && not (timer_of d).running) (timer_instead x (with_phases (timer_of d) (timer_of x).ticks (timer_of x).edges)) x)))
    x)

-- "A change of ACR 6-4 reloads, drives the output high, setting no bit": it clears the bit, and so does a start
abbrev start_clears : Step
start_clears = leads_to (λ d e x. pick (is_read_of 14 e || is_write_of 4 e) (timer_instead x (with_ready (timer_of x) false)) x)

-- order 4: "a start that takes the output from low to high does set ISR bit 3": no start does; every start of a timer does; every start of a counter
-- does; a write of ACR does too
abbrev pub start_never_sets : Step
start_never_sets = leads_to (λ d e x. pick (is_read_of 14 e) (timer_instead x (with_ready (timer_of x) (timer_of d).ready)) x)

abbrev pub start_always_sets : Step
start_always_sets =
    leads_to (λ d e x. pick (is_read_of 14 e && is_timer (mode_in d)) (timer_instead x (with_ready (timer_of x) true)) x)

abbrev counter_start_sets : Step
counter_start_sets =
    leads_to (λ d e x. pick (is_read_of 14 e && not (is_timer (mode_in d))) (timer_instead x (with_ready (timer_of x) true)) x)

abbrev change_sets : Step
change_sets =
    leads_to (λ d e x. pick (is_write_of 4 e && not (timer_of d).output) (timer_instead x (with_ready (timer_of x) true)) x)

-- "(a start or a change of ACR gives no pulse)": a start that takes the output from low to high clocks transmitter A, as the toggle to high does
abbrev start_pulses : Step
start_pulses =
    leads_to
    (λ d e x. pick (is_read_of 14 e && not (timer_of d).output)
    (with_sender x (step_of (timer_instead d (with_count (timer_of d) 1 false)) Tick).state.front.a.transmitter)
    x)

-- "A change of ACR 6-4 reloads": so does any write of ACR
abbrev write_reloads : Step
write_reloads = leads_to (λ d e x. pick (is_write_of 4 e) (timer_instead x (with_count (timer_of x) (timer_of x).preload (timer_of x).output)) x)

-- ---- the events ----

-- preload 1 in mode m
abbrev preloaded : ℕ → List Event
preloaded mode = Write 4 (16 * mode) ∷ Write 6 0 ∷ Write 7 1 ∷ []

abbrev sixteen : List Event
sixteen = replicate 16 Tick

-- a timer on ticks, preload 1, started, and a tick: its output is low; and another: it is high, and the bit is set
abbrev lowered : List Event
lowered = preloaded 6 ++ Read 14 ∷ Tick ∷ []

abbrev raised : List Event
raised = lowered ++ Tick ∷ []

-- the same, with transmitter A on code 13 and 85 to send
abbrev waits : List Event
waits = Write 0 19 ∷ Write 0 7 ∷ Write 1 221 ∷ lowered ++ Write 2 4 ∷ Write 3 85 ∷ []

-- IP2 falls and rises
abbrev rises : List Event
rises = Pins 251 ∷ Pins 255 ∷ []

-- a counter on transmitter A's 1X clock, which is its pin's: preload 5, a start and a pulse
abbrev transmits : List Event
transmits = Write 1 255 ∷ Write 7 5 ∷ Write 4 16 ∷ Read 14 ∷ Pins 247 ∷ []

-- a timer on ticks, preload 5, a stop and a tick
abbrev halted : List Event
halted = Write 7 5 ∷ Write 4 96 ∷ Read 15 ∷ Tick ∷ []

-- ---- shut out ----

one_preload : 1 < 65536
one_preload = omega arith

-- started after its preload
abbrev Started : ℕ → List Event → Type 0
Started mode fs = Loaded mode (preloaded mode) (Read 14) fs

pub record WrongCounter : Type 0 where
  -- the count, the counter's terminal and the timer's, and the stop
  pub no_counts_nothing : Counter counts_nothing → ⊥
  pub no_never_terminal : Counter never_terminal → ⊥
  pub no_never_terminal_timer : Counter never_terminal → ⊥
  pub no_stops_nothing : Counter (chip_of stops_nothing) → ⊥
  -- the bit at a start, and at a write of ACR; the count at one that leaves bits 6-4, and at a write of a preload
  pub no_start_clears : Counter (chip_of start_clears) → ⊥
  pub no_start_clears_change : Counter (chip_of start_clears) → ⊥
  -- order 4: the bit at a start, of a timer that is high, and low, and of a counter; at a change of mode; and no pulse of code 13
  pub no_start_clears_timer : Counter (chip_of start_clears) → ⊥
  pub no_start_never_sets : Counter (chip_of start_never_sets) → ⊥
  pub no_start_always_sets : Counter (chip_of start_always_sets) → ⊥
  pub no_counter_start_sets : Counter (chip_of counter_start_sets) → ⊥
  pub no_change_sets : Counter (chip_of change_sets) → ⊥
  pub no_start_pulses : Transmits (chip_of start_pulses) → ⊥
  pub no_write_reloads : Counter (chip_of write_reloads) → ⊥
  pub no_preload_counts_count : Counter (chip_of preload_counts) → ⊥
  -- the count of a timer, after a change to a counter mode, and after a stop of a counter and of a timer
  pub no_counts_nothing_reloads : Counter counts_nothing → ⊥
  pub no_counts_nothing_changed : Counter counts_nothing → ⊥
  pub no_stops_nothing_halts : Counter (chip_of stops_nothing) → ⊥
  pub no_stop_halts_runs_on : Counter (chip_of stop_halts) → ⊥
  -- the same, after any events
  pub no_counts_nothing_counted : Counted counts_nothing → ⊥
  pub no_never_terminal_counted : Counted never_terminal → ⊥
  -- after a chip reset, a write of a preload, in modes 1 and 2, and after a stop of a timer
  pub no_reset_runs : Counted (chip_of reset_runs) → ⊥
  pub no_preload_counts : Counted (chip_of preload_counts) → ⊥
  pub no_transmitters_uncounted : Counted (chip_of transmitters_uncounted) → ⊥
  pub no_stop_halts : Counted (chip_of stop_halts) → ⊥

pub wrong_counter : WrongCounter
unfolding computing timer_then timer_from inputs_at inputs_from echo_then echo_from
wrong_counter =
    record {
      no_counts_nothing = λ h. eqb-false 0 1 refl (h.count 255 3 (preloaded 3) [] counter refl);
      no_never_terminal = λ h. true≢false (sym (h.terminal 255 3 (preloaded 3) sixteen counter-on refl));
      no_never_terminal_timer = λ h. true≢false (sym (h.toggles 255 6 (preloaded 6) (Tick ∷ Tick ∷ []) (Read 14) timer refl));
      no_stops_nothing = λ h. true≢false (h.clears 255 (preloaded 3 ++ Read 14 ∷ sixteen));
      no_start_clears = λ h. true≢false (sym (h.starts 255 (preloaded 3 ++ Read 14 ∷ sixteen)));
      no_start_clears_change = λ h. true≢false (sym (h.sets 255 96 (preloaded 3 ++ Read 14 ∷ sixteen)));
      no_start_clears_timer = λ h. true≢false (sym (h.starts 255 raised));
      no_start_never_sets = λ h. true≢false (sym (h.starts 255 lowered));
      no_start_always_sets = λ h. true≢false (h.starts 255 (preloaded 6));
      no_counter_start_sets = λ h. true≢false (h.starts 255 (preloaded 3));
      no_change_sets = λ h. true≢false (h.sets 255 48 lowered);
      no_start_pulses = λ h. true≢false (sym (h.line 255 A (waits ++ Read 14 ∷ [])));
      no_write_reloads = λ h. eqb-false 5 0 refl (h.kept 255 0 (Write 7 5 ∷ []) refl);
      no_preload_counts_count = λ h. eqb-false 5 0 refl (h.preloads 255 5 []).1;
      no_counts_nothing_reloads = λ h. eqb-false 0 1 refl (h.reloads 255 6 (preloaded 6) [] (Read 14) loaded refl);
      no_counts_nothing_changed = λ h. eqb-false 0 5 refl (h.changed 255 3 48 (Write 7 5 ∷ []) [] refl refl refl);
      no_stops_nothing_halts = λ h. eqb-false 4 5 refl (h.halts 255 (Write 7 5 ∷ Read 14 ∷ []) rises refl refl);
      no_stop_halts_runs_on = λ h. eqb-false 5 4 refl (h.runs_on 255 (Write 7 5 ∷ Write 4 96 ∷ []) (Tick ∷ []) refl refl).0;
      no_counts_nothing_counted = λ h. eqb-false 0 1 refl (h.low 255 (preloaded 3 ++ Read 14 ∷ []));
      no_never_terminal_counted = λ h. true≢false (sym (h.bit 255 (preloaded 0 ++ Read 14 ∷ rises)));
      no_reset_runs = λ h. eqb-false 255 0 refl (h.high 255 (ChipReset ∷ rises));
      no_preload_counts = λ h. eqb-false 5 0 refl (h.low 255 (Write 7 5 ∷ []));
      no_transmitters_uncounted = λ h. eqb-false 5 4 refl (h.low 255 transmits);
      no_stop_halts = λ h. eqb-false 5 4 refl (h.low 255 halted);
    }
  where
    counter : Started 3 []
    counter = record { loaded = refl; preload = one_preload; left = refl }

    counter-on : Started 3 sixteen
    counter-on = record { loaded = refl; preload = one_preload; left = refl }

    loaded : Started 6 []
    loaded = record { loaded = refl; preload = one_preload; left = refl }

    timer : Started 6 (Tick ∷ Tick ∷ [])
    timer = record { loaded = refl; preload = one_preload; left = refl }
