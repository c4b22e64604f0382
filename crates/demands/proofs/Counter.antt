-- The counter/timer as it is shown: what loads it and the pulses since bring it where crate timer's theorems say; a counter that does not run stays,
-- and a stop leaves a timer as it is but for its bit; a start sets it where a timer's output was low, and a write of ACR leaves it. Assumes nothing.
use Prim.Native.Nat.{ℕ, ◌+◌, ◌%◌, ◌*◌, ◌-◌, ◌<◌, ◌/◌}
use mathlib.Core.Path.{◌≡◌, refl, sym, ◌∙◌, ap}
use mathlib.Core.Bool.{Bool, true, false, not, ◌&&◌, ◌||◌, or-false, and-eq-true_iff}
use mathlib.Core.List.{List, ◌∷◌, ◌++◌}
use native.Mathlib.Omega.{arith}
use lib.Dec.{eqb, leb}
use borrow.Author.Tests.{eqb-true}
use Rattle.format.specs.Pick.{pick}
use Rattle.format.proofs.Laws.Pick.{pick_all}
use Rattle.timer_state.specs.declared.counting.Timer.{Timer}
use Rattle.timer_state.specs.Counting.{mode_of, is_timer}
use Rattle.timer.specs.Timer.{started_of, stopped_of, mode_changed}
use Rattle.timer.specs.Counts.{pulses_of}
use Rattle.timer.specs.Modes.{timer_in}
use Rattle.timer.proofs.Modes.{timer_mode}
use Rattle.timer.proofs.Counts.{obeys}
use Rattle.byte_bits.specs.Bytes.{has_bit}
use Rattle.outputs.specs.Outputs.{driven_op3}
use Rattle.front.specs.declared.front.Front.{Front}
use Rattle.front.specs.Front.{front_at}
use Rattle.front_reads.specs.Reads.{front_data}
use Rattle.events.specs.declared.events.Event.{Event}
use Rattle.events.specs.declared.events.Event.TheVariants.{Read, Write}
use Rattle.chip_answers.specs.Answers.{timer_level}
use Rattle.chip_step.specs.Chip.{step_of}
use Rattle.demands.specs.Chip.{over, chip_of, and_then, shows, lines_after, each_of}
use Rattle.demands.specs.Clocks.{front_then, front_after}
use Rattle.demands.specs.Registers.{opcr_then, mode_after}
use Rattle.demands.specs.Counter.{preload_after, leaves_counter, loads, since, Loaded, output_shown, count_shown, Counter}
use Rattle.demands.proofs.Laws.Bits.{bit_3}
use Rattle.demands.proofs.Laws.Run.{run_at, run_front, run_sound, front_byte}
use Rattle.demands.proofs.Laws.Fronts.{front_written, front_read_lem, front_written_lem}
use Rattle.demands.proofs.Laws.Told.{over_append, over_then, acr_next, acr_told}
use Rattle.demands.proofs.Laws.Ports.{opcr_told}
use Rattle.demands.proofs.Laws.Looks.{chip, interrupts_shown}
use Rattle.demands.proofs.Laws.Pins.{not_twice, pins}
use Rattle.demands.proofs.Laws.Timers.{preload_told}
use Rattle.demands.proofs.Laws.Counting.{not_true, acr_over}
use Rattle.demands.proofs.Laws.Loads.{started_told, loaded_told, counter_count, counter_ready, timer_ready, timer_since}
use Rattle.demands.proofs.Laws.Stops.{halted_over, halted_stop, halted_change, cleared, cleared_over, cleared_stop}

-- ---- what is shown of it ----

pub count_shown_lem : (levels : ℕ) (es : List Event)
    → (shows chip levels es 6 ≡ (front_after levels es).timer.count / 256) × (shows chip levels es 7 ≡ (front_after levels es).timer.count % 256)
unfolding chip_of front_data pick
count_shown_lem levels es =
    rw (← run_front levels es) (
      front_byte (run_at levels es) 6 (run_sound levels es) (omega arith) refl refl,
      front_byte (run_at levels es) 7 (run_sound levels es) (omega arith) refl refl,
    )

count_whole : (levels : ℕ) (es : List Event) → count_shown chip levels es ≡ (front_after levels es).timer.count
count_whole levels es = let bytes = count_shown_lem levels es in omega arith

pub ready_shown : (levels : ℕ) (es : List Event) → has_bit (shows chip levels es 5) 3 ≡ (front_after levels es).timer.ready
ready_shown levels es = rw (interrupts_shown levels es) (bit_3 _ _ _ _ _ _ _ _)

pub output_shown_lem : (levels : ℕ) (es : List Event) → eqb (over opcr_then 0 es / 4 % 4) 1 ≡ true → is_timer (mode_of (front_after levels es).acr) ≡ true
    → has_bit (lines_after chip levels es).op 3 ≡ (front_after levels es).timer.output
unfolding driven_op3 timer_level pick
output_shown_lem levels es h m =
    let k = rw (opcr_told levels es) at h in
    (pins levels es).op3 ∙ rw (k, m) (not_twice _)

-- ---- the laws of a load ----

low_preload : (levels mode : ℕ) (es fs : List Event) (load : Event) → Loaded mode es load fs → (front_after levels es).timer.preload < 65536
low_preload levels mode es fs load s = rw (preload_told levels es) at s.preload

count_law : (levels mode : ℕ) (es fs : List Event) → Loaded mode es (Read 14) fs → timer_in mode ≡ false
    → count_shown chip levels (es ++ Read 14 ∷ fs) ≡ (preload_after es + 65535 * since mode levels es (Read 14) fs) % 65536
count_law levels mode es fs s h =
    count_whole levels (es ++ Read 14 ∷ fs)
    ∙ rw (preload_told levels es)
    (counter_count mode _ _ _ _ (started_told levels mode es fs s) h (low_preload levels mode es fs (Read 14) s))

terminal_law : (levels mode : ℕ) (es fs : List Event) → Loaded mode es (Read 14) fs → timer_in mode ≡ false
    → has_bit (shows chip levels (es ++ Read 14 ∷ fs) 5) 3
    ≡ (has_bit (shows chip levels es 5) 3 || leb (pulses_of (preload_after es)) (since mode levels es (Read 14) fs))
terminal_law levels mode es fs s h =
    ready_shown levels (es ++ Read 14 ∷ fs)
    ∙ rw (ready_shown levels es, preload_told levels es)
    (counter_ready mode _ _ _ _ (started_told levels mode es fs s) h (low_preload levels mode es fs (Read 14) s))

reloads_law : (levels mode : ℕ) (es fs : List Event) (load : Event) → Loaded mode es load fs → timer_in mode ≡ true
    → count_shown chip levels (es ++ load ∷ fs)
    ≡ (pulses_of (preload_after es) - since mode levels es load fs % pulses_of (preload_after es)) % 65536
reloads_law levels mode es fs load s h =
    let gone = timer_since mode _ _ _ _ (loaded_told levels mode es fs load s h) h (low_preload levels mode es fs load s) in
    count_whole levels (es ++ load ∷ fs) ∙ rw (preload_told levels es, ← gone.loaded) gone.gone.count

toggles_law : (levels mode : ℕ) (es fs : List Event) (load : Event) → Loaded mode es load fs → timer_in mode ≡ true
    → has_bit (shows chip levels (es ++ load ∷ fs) 5) 3
    ≡ (has_bit (shows chip levels (and_then es load) 5) 3 || leb (2 * pulses_of (preload_after es)) (since mode levels es load fs))
toggles_law levels mode es fs load s h =
    ready_shown levels (es ++ load ∷ fs)
    ∙ rw (ready_shown levels (and_then es load), preload_told levels es)
    (timer_ready mode _ _ _ _ (loaded_told levels mode es fs load s h) h (low_preload levels mode es fs load s))

output_law : (levels mode : ℕ) (es fs : List Event) (load : Event) → Loaded mode es load fs → timer_in mode ≡ true
    → eqb (over opcr_then 0 (es ++ load ∷ fs) / 4 % 4) 1 ≡ true
    → has_bit (lines_after chip levels (es ++ load ∷ fs)).op 3 ≡ eqb (since mode levels es load fs / pulses_of (preload_after es) % 2) 0
output_law levels mode es fs load s h o =
    let went = loaded_told levels mode es fs load s h in
    let gone = timer_since mode _ _ _ _ went h (low_preload levels mode es fs load s) in
    output_shown_lem levels (es ++ load ∷ fs) o (ap is_timer went.goes.chosen ∙ timer_mode mode ∙ h)
    ∙ rw (preload_told levels es, ← gone.loaded) gone.gone.output

-- ---- a counter that does not run ----

halts_law : (levels : ℕ) (es fs : List Event) → timer_in (mode_after es) ≡ false → each_of leaves_counter fs ≡ true
    → count_shown chip levels (es ++ Read 15 ∷ fs) ≡ count_shown chip levels es
unfolding over
halts_law levels es fs m l =
    let f = front_after levels es in
    count_whole levels (es ++ Read 15 ∷ fs)
    ∙ rw (count_whole levels es, over_append front_then (front_at levels) es (Read 15 ∷ fs))
    (halted_over f.timer.count _ fs l (halted_stop f (timer_mode (mode_of f.acr) ∙ rw (acr_told levels es) at m))).count

changed_law : (levels mode byte : ℕ) (es fs : List Event) → loads mode es (Write 4 byte) ≡ true → timer_in mode ≡ false
    → each_of leaves_counter fs ≡ true → count_shown chip levels (es ++ Write 4 byte ∷ fs) ≡ preload_after es
unfolding over
changed_law levels mode byte es fs c m l =
    let f = front_after levels es in
    let both = (and-eq-true_iff (eqb (mode_of byte) mode) _).0 c in
    let same : mode_of byte ≡ mode = eqb-true (mode_of byte) mode both.0 in
    let other : eqb (mode_of f.acr) (mode_of byte) ≡ false = rw (same, ← acr_told levels es) (not_true _ both.1) in
    count_whole levels (es ++ Write 4 byte ∷ fs)
    ∙ rw (preload_told levels es, over_append front_then (front_at levels) es (Write 4 byte ∷ fs))
    (halted_over f.timer.preload _ fs l (halted_change f byte other (timer_mode (mode_of byte) ∙ rw same m))).count

-- ---- a stop ----

stopped_ready : (t : Timer) (mode : ℕ) → (stopped_of t mode).ready ≡ false
unfolding stopped_of
stopped_ready t mode = pick_all (λ (u : Timer). u.ready ≡ false) (is_timer mode) _ _ refl refl

clears_law : (levels : ℕ) (es : List Event) → has_bit (shows chip levels (and_then es (Read 15)) 5) 3 ≡ false
unfolding pick
clears_law levels es =
    ready_shown levels (and_then es (Read 15))
    ∙ rw (over_then front_then (front_at levels) es (Read 15), front_read_lem (front_after levels es) 15) (stopped_ready (front_after levels es).timer _)

runs_law : (levels : ℕ) (es fs : List Event) → timer_in (mode_after es) ≡ true → each_of leaves_counter fs ≡ true
    → (count_shown chip levels (es ++ Read 15 ∷ fs) ≡ count_shown chip levels (es ++ fs))
    × (eqb (over opcr_then 0 (es ++ fs) / 4 % 4) 1 ≡ true
    → has_bit (lines_after chip levels (es ++ Read 15 ∷ fs)).op 3 ≡ has_bit (lines_after chip levels (es ++ fs)).op 3)
unfolding over
runs_law levels es fs m l = (count, output)
  where
    h : is_timer (mode_of (front_after levels es).acr) ≡ true
    h = timer_mode (mode_of (front_after levels es).acr) ∙ rw (acr_told levels es) at m

    is_timer_of : Front → Bool
    is_timer_of f = is_timer (mode_of f.acr)

    same : cleared (front_after levels (es ++ Read 15 ∷ fs)) ≡ cleared (front_after levels (es ++ fs))
    same =
        rw (over_append front_then (front_at levels) es (Read 15 ∷ fs), over_append front_then (front_at levels) es fs)
        (cleared_over _ _ fs l (cleared_stop (front_after levels es) h))

    timer : is_timer_of (front_after levels (es ++ fs)) ≡ true
    timer = rw (over_append front_then (front_at levels) es fs, acr_over (front_after levels es) fs l) h

    opcr : eqb (over opcr_then 0 (es ++ fs) / 4 % 4) 1 ≡ true → eqb (over opcr_then 0 (es ++ Read 15 ∷ fs) / 4 % 4) 1 ≡ true
    opcr o = rw (over_append opcr_then 0 es (Read 15 ∷ fs), ← over_append opcr_then 0 es fs) o

    count : count_shown chip levels (es ++ Read 15 ∷ fs) ≡ count_shown chip levels (es ++ fs)
    count = count_whole levels (es ++ Read 15 ∷ fs) ∙ ap (λ (f : Front). f.timer.count) same ∙ sym (count_whole levels (es ++ fs))

    output : eqb (over opcr_then 0 (es ++ fs) / 4 % 4) 1 ≡ true
        → has_bit (lines_after chip levels (es ++ Read 15 ∷ fs)).op 3 ≡ has_bit (lines_after chip levels (es ++ fs)).op 3
    output o =
        output_shown_lem levels (es ++ Read 15 ∷ fs) (opcr o) (ap is_timer_of same ∙ timer)
        ∙ ap (λ (f : Front). f.timer.output) same ∙ sym (output_shown_lem levels (es ++ fs) o timer)

-- ---- what leaves its bit, and its count ----

changed_ready : (t : Timer) (before now : ℕ) → (mode_changed t before now).ready ≡ t.ready
unfolding mode_changed
changed_ready t before now = pick_all (λ (u : Timer). u.ready ≡ t.ready) _ _ _ refl refl

-- a write
written_timer : (levels n byte : ℕ) (es : List Event)
    → (front_after levels (and_then es (Write n byte))).timer ≡ (front_written (front_after levels es) n byte).timer
written_timer levels n byte es = rw (over_then front_then (front_at levels) es (Write n byte), front_written_lem (front_after levels es) n byte)

-- the output, were it put on OP3
shown_output : (levels : ℕ) (es : List Event) → timer_in (mode_after es) ≡ true
    → output_shown chip levels es ≡ (front_after levels es).timer.output
unfolding pick
shown_output levels es h =
    let f = front_after levels es in
    let chosen : eqb (over opcr_then 0 (and_then es (Write 13 4)) / 4 % 4) 1 ≡ true = rw (over_then opcr_then 0 es (Write 13 4)) in
    let mode : is_timer (mode_of (front_after levels (and_then es (Write 13 4))).acr) ≡ true =
    rw (over_then front_then (front_at levels) es (Write 13 4), acr_next f (Write 13 4))
    (timer_mode (mode_of f.acr) ∙ rw (acr_told levels es) at h) in
    output_shown_lem levels (and_then es (Write 13 4)) chosen mode ∙ rw (written_timer levels 13 4 es)

started_ready : (t : Timer) (mode : ℕ) → (started_of t mode).ready ≡ (t.ready || (timer_in mode && not t.output))
started_ready t mode = go (timer_in mode) refl
  where
    go : (b : Bool) → timer_in mode ≡ b → (started_of t mode).ready ≡ (t.ready || (timer_in mode && not t.output))
    go true h = rw (obeys.starts_timer t mode h, h)
    go false h = rw (obeys.starts_counter t mode h, h) (sym (or-false t.ready))

starts_law : (levels : ℕ) (es : List Event)
    → has_bit (shows chip levels (and_then es (Read 14)) 5) 3
    ≡ (has_bit (shows chip levels es 5) 3 || (timer_in (mode_after es) && not (output_shown chip levels es)))
unfolding pick
starts_law levels es =
    let t = (front_after levels es).timer in
    ready_shown levels (and_then es (Read 14))
    ∙ rw (ready_shown levels es, over_then front_then (front_at levels) es (Read 14), front_read_lem (front_after levels es) 14, ← acr_told levels es)
    (started_ready t (mode_after es) ∙ ap (λ (x : Bool). t.ready || x) (go (timer_in (mode_after es)) refl))
  where
    go : (b : Bool) → timer_in (mode_after es) ≡ b
        → (timer_in (mode_after es) && not (front_after levels es).timer.output) ≡ (timer_in (mode_after es) && not (output_shown chip levels es))
    go true h = rw (h, shown_output levels es h)
    go false h = rw h

sets_law : (levels byte : ℕ) (es : List Event) → has_bit (shows chip levels (and_then es (Write 4 byte)) 5) 3 ≡ has_bit (shows chip levels es 5) 3
unfolding pick
sets_law levels byte es =
    ready_shown levels (and_then es (Write 4 byte))
    ∙ rw (ready_shown levels es, written_timer levels 4 byte es) (changed_ready (front_after levels es).timer (front_after levels es).acr byte)

kept_law : (levels byte : ℕ) (es : List Event) → eqb (mode_after es) (mode_of byte) ≡ true
    → count_shown chip levels (and_then es (Write 4 byte)) ≡ count_shown chip levels es
unfolding mode_changed pick
kept_law levels byte es h =
    let same : eqb (mode_of (front_after levels es).acr) (mode_of byte) ≡ true = rw (acr_told levels es) at h in
    count_whole levels (and_then es (Write 4 byte)) ∙ rw (count_whole levels es, written_timer levels 4 byte es, same)

preloads_law : (levels byte : ℕ) (es : List Event)
    → (count_shown chip levels (and_then es (Write 6 byte)) ≡ count_shown chip levels es)
    × (count_shown chip levels (and_then es (Write 7 byte)) ≡ count_shown chip levels es)
unfolding pick
preloads_law levels byte es = (
  count_whole levels (and_then es (Write 6 byte)) ∙ rw (count_whole levels es, written_timer levels 6 byte es),
  count_whole levels (and_then es (Write 7 byte)) ∙ rw (count_whole levels es, written_timer levels 7 byte es),
)

pub counter : Counter (chip_of step_of)
counter =
    record {
      count = count_law;
      terminal = terminal_law;
      halts = halts_law;
      changed = changed_law;
      reloads = reloads_law;
      toggles = toggles_law;
      output = output_law;
      clears = clears_law;
      runs_on = runs_law;
      starts = starts_law;
      sets = sets_law;
      kept = kept_law;
      preloads = preloads_law;
    }
