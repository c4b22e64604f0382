-- The counter/timer as the events tell it is the one in the front run alone, event by event; and what is shown of that one is proved (Counter).
-- Assumes nothing.
use Prim.Native.Nat.{ℕ, ◌/◌, ◌%◌}
use mathlib.Core.Path.{◌≡◌, refl, sym, ◌∙◌, ap}
use mathlib.Core.Bool.{true}
use mathlib.Core.List.{List, [], ◌∷◌}
use lib.Dec.{eqb}
use Rattle.timer_state.specs.declared.counting.Timer.{Timer}
use Rattle.timer_state.specs.Counting.{mode_of, is_timer, pulsed_by}
use Rattle.timer.specs.Timer.{stopped_of, mode_changed}
use Rattle.timer.specs.Modes.{timer_in}
use Rattle.timer.proofs.Modes.{timer_mode}
use Rattle.byte_bits.specs.Bytes.{has_bit}
use Rattle.front.specs.declared.front.Front.{Front}
use Rattle.front.specs.Front.{front_at}
use Rattle.events.specs.declared.events.Event.{Event}
use Rattle.events.specs.declared.events.Event.TheVariants.{ChipReset, Read, Write, Acknowledge, Pins, Tick}
use Rattle.chip_step.specs.Chip.{step_of}
use Rattle.demands.specs.Chip.{chip_of, and_then, over, lines_after}
use Rattle.demands.specs.Clocks.{front_then, front_after}
use Rattle.demands.specs.Registers.{opcr_then, mode_after}
use Rattle.demands.specs.Counter.{pulse_at}
use Rattle.demands.specs.Counted.{timer_then, timer_from, timer_after, Counted}
use Rattle.demands.proofs.Laws.Fronts.{front_read, front_written, front_next_lem}
use Rattle.demands.proofs.Laws.Told.{over_then, pick_with, acr_told}
use Rattle.demands.proofs.Laws.Looks.{chip}
use Rattle.demands.proofs.Laws.Counting.{core, timer_tick, timer_pins}
use Rattle.demands.proofs.Laws.Loads.{core_started}
use Rattle.demands.proofs.Counter.{count_shown_lem, ready_shown, output_shown_lem}

-- ---- one event ----

core_stopped : (t : Timer) (mode : ℕ) → core (stopped_of t mode) ≡ stopped_of (core t) mode
unfolding stopped_of
core_stopped t mode = pick_with core (is_timer mode) refl refl

core_changed : (t : Timer) (before after : ℕ) → core (mode_changed t before after) ≡ mode_changed (core t) before after
unfolding mode_changed
core_changed t before after = pick_with core (eqb (mode_of before) (mode_of after)) refl refl

timer_then_lem : (levels : ℕ) (es : List Event) (e : Event)
    → timer_then levels es (core (front_after levels es).timer) e ≡ core (front_after levels (and_then es e)).timer
unfolding timer_then front_at
timer_then_lem levels es e = rw (over_then front_then (front_at levels) es e) (sym (go e))
  where
    f : Front
    f = front_after levels es

    read : (n : ℕ) → core (front_read f n).timer ≡ timer_then levels es (core f.timer) (Read n)
    read n =
        rw (acr_told levels es)
        (pick_with core (eqb n 14) (core_started f.timer (mode_of f.acr))
        (pick_with core (eqb n 15) (core_stopped f.timer (mode_of f.acr)) refl))

    written : (n byte : ℕ) → core (front_written f n byte).timer ≡ timer_then levels es (core f.timer) (Write n byte)
    written n byte =
        rw (acr_told levels es)
        (pick_with core (eqb n 4) (core_changed f.timer f.acr byte) (pick_with core (eqb n 6) refl (pick_with core (eqb n 7) refl refl)))

    clocked : Event → ℕ → Timer
    clocked e acr = (pulsed_by (core f.timer) (mode_of acr) (pulse_at (mode_of acr) levels es e)).timer

    go : (e : Event) → core (front_then f e).timer ≡ timer_then levels es (core f.timer) e
    go ChipReset = ap (λ (g : Front). core g.timer) (front_next_lem f ChipReset)
    go (Read n) = ap (λ (g : Front). core g.timer) (front_next_lem f (Read n)) ∙ read n
    go (Write n byte) = ap (λ (g : Front). core g.timer) (front_next_lem f (Write n byte)) ∙ written n byte
    go Acknowledge = ap (λ (g : Front). core g.timer) (front_next_lem f Acknowledge)
    go (Pins x) = timer_pins levels es x ∙ ap (clocked (Pins x)) (sym (acr_told levels es))
    go Tick = timer_tick levels es ∙ ap (clocked Tick) (sym (acr_told levels es))

-- ---- any events ----

timer_from_lem : (levels : ℕ) (before es : List Event)
    → timer_from levels (core (front_after levels before).timer) before es ≡ core (over front_then (front_after levels before) es).timer
unfolding timer_from over
timer_from_lem levels before [] = refl
timer_from_lem levels before (e ∷ es) =
    rw (timer_then_lem levels before e, timer_from_lem levels (and_then before e) es, over_then front_then (front_at levels) before e)

-- but for the /16 phases, which are the statement's to tell
pub timer_told : (levels : ℕ) (es : List Event) → timer_after levels es ≡ core (front_after levels es).timer
unfolding over front_at
timer_told levels es = timer_from_lem levels [] es

-- ---- what is shown ----

output_told : (levels : ℕ) (es : List Event) → eqb (over opcr_then 0 es / 4 % 4) 1 ≡ true → timer_in (mode_after es) ≡ true
    → has_bit (lines_after chip levels es).op 3 ≡ (timer_after levels es).output
output_told levels es h m =
    let k = timer_mode (mode_of (front_after levels es).acr) ∙ rw (acr_told levels es) at m in
    rw (timer_told levels es) (output_shown_lem levels es h k)

pub counted : Counted (chip_of step_of)
counted =
    record {
      high = λ levels es. rw (timer_told levels es) (count_shown_lem levels es).0;
      low = λ levels es. rw (timer_told levels es) (count_shown_lem levels es).1;
      bit = λ levels es. rw (timer_told levels es) (ready_shown levels es);
      output = output_told;
    }
