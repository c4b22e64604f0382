-- Wrong boards, each right but for one fault, and refuted by the statement. Assumes nothing.
use Prim.Native.Nat.{ℕ, ◌-◌}
use mathlib.Core.Path.{ap}
use mathlib.Core.Bool.{false}
use mathlib.Core.List.{List, [], ◌∷◌, ◌++◌, map}
use native.Mathlib.Omega.{arith}
use lib.ListN.{length}
use Rattle.events.specs.declared.events.Event.TheVariants.{Read, Write}
use Rattle.chip_device.specs.declared.device.Device.{Device}
use Rattle.chip_step.specs.Chip.{step_of}
use Rattle.chip_ticks.specs.declared.until_irq.Ran.{Ran}
use Rattle.chip_ticks.specs.Ticks.{spent_of}
use Rattle.chip_ticks.specs.Run.{run_refusal, run_of}
use Rattle.records.specs.declared.records.EventRecord.{EventRecord}
use Rattle.records.specs.declared.records.Seen.{Seen}
use Rattle.records.specs.Records.{event_of}
use Rattle.poll.specs.declared.polling.Polled.{Polled}
use Rattle.poll.specs.Step.{single_of}
use Rattle.poll.specs.Poll.{poll_refusal, poll_from, after_poll, polled_of, answers_after}
use Rattle.demands.specs.Chip.Channel.{A}
use Rattle.demands.specs.Cases.{heard, listening, arrives}
use Rattle.demands.specs.Delivery.{read_from}
use Rattle.demands.proofs.Computing.{computing}
use Rattle.demands_calls.specs.Calls.{Call, Board, after_calls, events_of, bytes_read, Calls}
use Rattle.demands_calls.specs.Calls.Call.{one, polls, runs}

abbrev record' : ℕ → ℕ → EventRecord
record' kind reg = record { kind = kind; reg = reg; byte = 0 }

abbrev blank : Seen
blank = record { number = 0; «data» = 0; fresh = false; irq = false; txda = false; txdb = false; op = 0 }

-- two ticks at once
abbrev two_ticks : List Call
two_ticks = polls (record' 5 0 ∷ record' 5 0 ∷ []) (blank ∷ blank ∷ []) ∷ []

-- "Timer on ticks, preload 2, start: ISR bit 3 after 4 ticks", with IMR bit 3, and then a run
abbrev timed : List Call
timed = map one (Write 5 8 ∷ Write 6 0 ∷ Write 7 2 ∷ Write 4 96 ∷ Read 14 ∷ []) ++ runs 10 ∷ []

-- a 1 has arrived at A, and a poll reads it
abbrev read_one : List Call
read_one = map one (listening false ++ arrives false 1) ++ polls (record' 1 3 ∷ []) (blank ∷ []) ∷ []

-- the phase of ticks/16
abbrev ticks_in : Device → ℕ
ticks_in d = d.front.timer.ticks.0

abbrev with_poll : (Device → List EventRecord → List Seen → Polled) → Board
with_poll poll = record { step = step_of; poll = poll; written = answers_after; run = run_of }

abbrev with_run : (Device → ℕ → Ran) → Board
with_run run = record { step = step_of; poll = polled_of; written = answers_after; run = run }

-- "the count says how many were written": one less
abbrev counts_less : Board
counts_less = with_poll (λ d es xs. let p : Polled = polled_of d es xs in record { number = p.number; count = p.count - 1; state = p.state })

no_counts_less : Calls counts_less → ⊥
unfolding computing event_of single_of poll_refusal poll_from after_poll polled_of after_calls events_of
no_counts_less h = omega (arith, ap ticks_in (h.states 255 two_ticks))

-- "the last state is returned": the state as given
abbrev keeps_state : Board
keeps_state = with_poll (λ d es xs. let p : Polled = polled_of d es xs in record { number = p.number; count = p.count; state = d })

no_keeps_state : Calls keeps_state → ⊥
unfolding computing event_of single_of poll_refusal poll_from after_poll polled_of after_calls events_of
no_keeps_state h = omega (arith, ap ticks_in (h.states 255 two_ticks))

-- "with the answers, less the states, written to a second lent list": nothing is written
abbrev writes_nothing : Board
writes_nothing = record { step = step_of; poll = polled_of; written = λ d es xs. xs; run = run_of }

no_writes_nothing : Calls writes_nothing → ⊥
unfolding computing heard event_of single_of poll_refusal poll_from after_poll polled_of read_from events_of bytes_read
no_writes_nothing h = omega (arith, ap (λ (xs : List ℕ). length xs) (h.reads 255 A read_one))

-- "reports how many ticks it took": the budget, though IRQ came sooner
abbrev reports_budget : Board
reports_budget =
    with_run (λ d n. let r : Ran = run_of d n in record { number = r.number; ticks = n; lines = r.lines; state = r.state })

no_reports_budget : Calls reports_budget → ⊥
unfolding computing spent_of run_refusal run_of after_calls events_of
no_reports_budget h = omega (arith, ap ticks_in (h.states 255 timed))

-- "state and lines equal the single ticks": the state as given
abbrev runs_nowhere : Board
runs_nowhere =
    with_run (λ d n. let r : Ran = run_of d n in record { number = r.number; ticks = r.ticks; lines = r.lines; state = d })

no_runs_nowhere : Calls runs_nowhere → ⊥
unfolding computing spent_of run_refusal run_of after_calls events_of
no_runs_nowhere h = omega (arith, ap ticks_in (h.states 255 timed))
