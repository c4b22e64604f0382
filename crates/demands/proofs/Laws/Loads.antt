-- What loads the counter/timer, a start or a change of its mode, leaves it as a start leaves one with the same preload, the same ISR bit 3 and, for
-- a change, the output high; and what leaves it alone then brings it where crate timer's theorems say, by the pulses since. Assumes nothing.
use Prim.Native.Nat.{ℕ, zero, suc, ◌+◌, ◌*◌, ◌<◌, ◌%◌}
use mathlib.Core.Path.{◌≡◌, refl, sym, ◌∙◌, ap}
use mathlib.Core.Bool.{true, false, not, ◌||◌, or-false, and-eq-true_iff, true≢false}
use mathlib.Core.List.{List, [], ◌∷◌, ◌++◌, append_assoc}
use native.Mathlib.Omega.{arith}
use native.Mathlib.Nat.{zero-add, sub-zero, zero-mod, zero-div}
use lib.Dec.{eqb, leb}
use borrow.Author.Tests.{ne_eqb, eqb-true}
use Rattle.format.specs.declared.counts.Pulses.{Pulses}
use Rattle.format.specs.declared.counts.Ticks.{Ticks}
use Rattle.format.specs.Pick.{pick}
use Rattle.timer_state.specs.declared.counting.Timer.{Timer}
use Rattle.timer_state.specs.Counting.{with_count, with_running, with_ready, with_phases, mode_of, is_timer, pulsed_by}
use Rattle.timer.specs.Timer.{started_of, mode_changed}
use Rattle.timer.specs.Counts.{after_pulses, pulses_of, Gone}
use Rattle.timer.specs.Modes.{timer_in}
use Rattle.timer.proofs.Counts.{counts, toggles, obeys}
use Rattle.timer.proofs.Sources.{leaves}
use Rattle.front.specs.declared.front.Front.{Front}
use Rattle.front.specs.Front.{front_at}
use Rattle.events.specs.declared.events.Event.{Event}
use Rattle.events.specs.declared.events.Event.TheVariants.{ChipReset, Read, Write, Acknowledge, Pins, Tick}
use Rattle.demands.specs.Chip.{and_then}
use Rattle.demands.specs.Clocks.{front_then, front_after}
use Rattle.demands.specs.Counter.{loads, since, Loaded}
use Rattle.demands.proofs.Laws.Fronts.{front_read_lem, front_written_lem}
use Rattle.demands.proofs.Laws.Told.{pick_with, over_then, acr_next, acr_told}
use Rattle.demands.proofs.Laws.Counting.{core, Goes, goes_over, not_true}

-- ---- what loads it ----

-- a front whose counter/timer has gone on, by k pulses, from a start of one with the preload and the bit of `before`; `after` is as the load left it
pub record Went (mode k : ℕ) (before after : Timer) (f : Front) : Type 0 where
  pub from : Timer
  pub preload : from.preload ≡ before.preload
  pub ready : from.ready ≡ before.ready
  pub loaded : core after ≡ started_of from mode
  pub goes : Goes mode k (started_of from mode) f

-- at once
abbrev WentNow : ℕ → Front → Event → Type 0
WentNow mode f load = Went mode 0 f.timer (front_then f load).timer (front_then f load)

pub core_started : (t : Timer) (mode : ℕ) → core (started_of t mode) ≡ started_of (core t) mode
unfolding started_of
core_started t mode = pick_with core (is_timer mode) refl refl

-- a start
started_went : (mode : ℕ) (f : Front) → mode_of f.acr ≡ mode → WentNow mode f (Read 14)
unfolding after_pulses pick
started_went mode f m =
    record {
      from = core f.timer;
      preload = refl;
      ready = refl;
      loaded = started;
      goes = record { chosen = ap mode_of (acr_next f (Read 14)) ∙ m; told = started };
    }
  where
    started : core (front_then f (Read 14)).timer ≡ started_of (core f.timer) mode
    started = rw (front_read_lem f 14, m) (core_started f.timer mode)

-- a change to a timer mode: a timer that runs is as one that was started with its output high
changed_went : (mode byte : ℕ) (f : Front) → mode_of byte ≡ mode → eqb (mode_of f.acr) mode ≡ false → timer_in mode ≡ true
    → WentNow mode f (Write 4 byte)
unfolding after_pulses pick
changed_went mode byte f m d h =
    record {
      from = from;
      preload = refl;
      ready = refl;
      loaded = started;
      goes = record { chosen = ap mode_of (acr_next f (Write 4 byte)) ∙ m; told = started };
    }
  where
    from : Timer
    from = with_running (with_count (core f.timer) f.timer.count true) true

    loaded : core (mode_changed f.timer f.acr byte) ≡ with_ready (with_count from f.timer.preload true) (f.timer.ready || false)
    loaded = rw (obeys.changes f.timer f.acr byte (rw m d), m, h, or-false)

    started : core (front_then f (Write 4 byte)).timer ≡ started_of from mode
    started = rw (front_written_lem f 4 byte, obeys.starts_timer from mode h) loaded

-- ---- and what leaves it alone after it ----

-- since a chip reset
abbrev pub WentBy : ℕ → ℕ → List Event → Event → List Event → Type 0
WentBy mode levels es load fs =
    Went mode (since mode levels es load fs) (front_after levels es).timer (front_after levels (and_then es load)).timer
    (front_after levels (es ++ load ∷ fs))

went_by : (levels mode : ℕ) (es fs : List Event) (load : Event) → Loaded mode es load fs → WentNow mode (front_after levels es) load
    → WentBy mode levels es load fs
went_by levels mode es fs load s w =
    record {
      from = w.from;
      preload = w.preload;
      ready = w.ready;
      loaded = rw (over_then front_then (front_at levels) es load) w.loaded;
      goes =
          rw (append_assoc es (load ∷ []) fs, zero-add) at
          (goes_over mode 0 (started_of w.from mode) levels (and_then es load) fs s.left (rw (over_then front_then (front_at levels) es load) w.goes));
    }

-- from a start on
pub started_told : (levels mode : ℕ) (es fs : List Event) → Loaded mode es (Read 14) fs → WentBy mode levels es (Read 14) fs
started_told levels mode es fs s =
    let chosen : mode_of (front_after levels es).acr ≡ mode = rw (← acr_told levels es) (eqb-true _ mode s.loaded) in
    went_by levels mode es fs (Read 14) s (started_went mode (front_after levels es) chosen)

-- from any load on, in a timer mode
pub loaded_told : (levels mode : ℕ) (es fs : List Event) (load : Event) → Loaded mode es load fs → timer_in mode ≡ true
    → WentBy mode levels es load fs
loaded_told levels mode es fs load s h = went_by levels mode es fs load s (go load s.loaded)
  where
    f : Front
    f = front_after levels es

    go : (load : Event) → loads mode es load ≡ true → WentNow mode f load
    go ChipReset l = absurd (true≢false (sym l))
    go (Read n) l =
        let both = (and-eq-true_iff (eqb n 14) _).0 l in
        let chosen : mode_of f.acr ≡ mode = rw (← acr_told levels es) (eqb-true _ mode both.1) in
        rw (eqb-true n 14 both.0) (started_went mode f chosen)
    go (Write n byte) l =
        let both = (and-eq-true_iff (eqb n 4) _).0 l in
        let change = (and-eq-true_iff (eqb (mode_of byte) mode) _).0 both.1 in
        let other : eqb (mode_of f.acr) mode ≡ false = rw (← acr_told levels es) (not_true _ change.1) in
        rw (eqb-true n 4 both.0) (changed_went mode byte f (eqb-true _ mode change.0) other h)
    go Acknowledge l = absurd (true≢false (sym l))
    go (Pins levels) l = absurd (true≢false (sym l))
    go Tick l = absurd (true≢false (sym l))

-- ---- where it is then ----

-- a counter
pub counter_count : (mode k : ℕ) (t u : Timer) (f : Front) → Went mode k t u f → timer_in mode ≡ false → t.preload < 65536
    → f.timer.count ≡ (t.preload + 65535 * k) % 65536
counter_count mode k t u f w h l =
    ap (λ (u : Timer). u.count) w.goes.told
    ∙ rw (← w.preload) (counts.count w.from mode k h (rw w.preload l))

pub counter_ready : (mode k : ℕ) (t u : Timer) (f : Front) → Went mode k t u f → timer_in mode ≡ false → t.preload < 65536
    → f.timer.ready ≡ (t.ready || leb (pulses_of t.preload) k)
counter_ready mode k t u f w h l =
    ap (λ (u : Timer). u.ready) w.goes.told
    ∙ rw (← w.preload, ← w.ready) (counts.sets w.from mode k h (rw w.preload l))

-- a timer
pub timer_ready : (mode k : ℕ) (t u : Timer) (f : Front) → Went mode k t u f → timer_in mode ≡ true → t.preload < 65536
    → f.timer.ready ≡ (u.ready || leb (2 * pulses_of t.preload) k)
timer_ready mode k t u f w h l =
    let at_once : u.ready ≡ (w.from.ready || not w.from.output) =
    ap (λ (v : Timer). v.ready) (w.loaded ∙ obeys.starts_timer w.from mode h) in
    ap (λ (v : Timer). v.ready) w.goes.told
    ∙ rw (← w.preload, at_once) (toggles.ready w.from mode k h (rw w.preload l))

preload_after : (mode : ℕ) (t : Timer) (k : ℕ) → (after_pulses pulsed_by mode t k).preload ≡ t.preload
unfolding after_pulses
preload_after mode t zero = refl
preload_after mode t (suc k) = (leaves.pulses (after_pulses pulsed_by mode t k) mode).preload ∙ preload_after mode t k

loads_preload : (preload : ℕ) → preload < 65536 → pulses_of preload % 65536 ≡ preload
unfolding pick
loads_preload zero l = refl
loads_preload (suc n) l = rw (ne_eqb (suc n) 0 (omega arith)) (omega arith)

-- a timer that has this preload, and has had k pulses since it was loaded
pub record Since (k preload : ℕ) (t : Timer) : Type 0 where
  pub loaded : t.preload ≡ preload
  pub gone : Gone k t

since_start : (t : Timer) (mode k : ℕ) → timer_in mode ≡ true → t.preload < 65536
    → Since k t.preload (after_pulses pulsed_by mode (started_of t mode) k)
since_start t mode k h l =
    rw (obeys.starts_timer t mode h)
    (record { loaded = preload_after mode first k; gone = rw (zero-add k) at (toggles.goes first mode 0 k h l loaded) })
  where
    first : Timer
    first = with_ready (with_count t t.preload true) (t.ready || not t.output)

    loaded : Gone 0 first
    loaded = record { count = rw (zero-mod, sub-zero) (sym (loads_preload t.preload l)); output = rw zero-div }

-- its /16 phases are nothing to it
pub since_phases : (k preload : ℕ) (t : Timer) (x : Ticks) (y : Pulses) → Since k preload t → Since k preload (with_phases t x y)
since_phases k preload t x y s = record { loaded = s.loaded; gone = record { count = s.gone.count; output = s.gone.output } }

pub timer_since : (mode k : ℕ) (t u : Timer) (f : Front) → Went mode k t u f → timer_in mode ≡ true → t.preload < 65536
    → Since k t.preload f.timer
timer_since mode k t u f w h l =
    let from = rw (← w.goes.told, w.preload) at (since_start w.from mode k h (rw w.preload l)) in
    since_phases k t.preload (core f.timer) f.timer.ticks f.timer.edges from
