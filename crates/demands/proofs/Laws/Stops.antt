-- A counter that does not run, stopped or by a change of mode, stays where it is, whatever its clock; and a timer that was stopped differs from one
-- that was not by ISR bit 3 alone, which no event looks at. Assumes nothing.
use Prim.Native.Nat.{ℕ}
use mathlib.Core.Path.{◌≡◌, refl, sym, ◌∙◌, ap}
use mathlib.Core.Bool.{Bool, true, false, and-eq-true_iff, true≢false}
use mathlib.Core.List.{List, [], ◌∷◌}
use lib.Dec.{eqb}
use Rattle.format.specs.Pick.{pick}
use Rattle.format.proofs.Laws.Pick.{pick_all}
use Rattle.timer_state.specs.declared.counting.Counted.{Counted}
use Rattle.timer_state.specs.declared.counting.Timer.{Timer}
use Rattle.timer_state.specs.Counting.{with_ready, mode_of, is_timer, counted_down, transmitter_pulses, counter_pulsed, timer_pulsed, pulsed_by}
use Rattle.timer.specs.Timer.{ticked_by, edged_by, stopped_of, transmitted_by}
use Rattle.timer.proofs.Counts.{counts, obeys}
use Rattle.timer.proofs.Modes.{timer_mode}
use Rattle.timer.proofs.Sources.{leaves}
use Rattle.inputs.specs.Inputs.{rises_of}
use Rattle.front.specs.declared.front.Front.{Front}
use Rattle.front.specs.Front.{with_timer}
use Rattle.front_clocks.specs.Clocking.{counted_of}
use Rattle.events.specs.declared.events.Event.{Event}
use Rattle.events.specs.declared.events.Event.TheVariants.{ChipReset, Read, Write, Acknowledge, Pins, Tick}
use Rattle.demands.specs.Chip.{Channel, over, each_of}
use Rattle.demands.specs.Chip.Channel.{A, B}
use Rattle.demands.specs.Clocks.{front_then, clocks_of}
use Rattle.demands.specs.Counter.{leaves_counter}
use Rattle.demands.proofs.Laws.Fronts.{front_moved, front_clocked, front_next, front_next_lem, front_read_lem, front_written_lem}
use Rattle.demands.proofs.Laws.Counting.{read_left, written_left, acr_left}

-- ---- a counter that does not run ----

-- a counter that does not run takes no pulse, whatever its clock
pulsed_halted : (t : Timer) (mode : ℕ) (pulse : Bool) → is_timer mode ≡ false → t.running ≡ false
    → ((pulsed_by t mode pulse).timer.running ≡ false) × ((pulsed_by t mode pulse).timer.count ≡ t.count)
pulsed_halted t mode true h r = rw (counts.halted t mode (sym (timer_mode mode) ∙ h) r) (r, refl)
pulsed_halted t mode false h r = rw (leaves.still t mode) (r, refl)

counted_halted : (f : Front) (before : ℕ) (tick : Bool) → is_timer (mode_of f.acr) ≡ false → f.timer.running ≡ false
    → ((counted_of f before tick).timer.running ≡ false) × ((counted_of f before tick).timer.count ≡ f.timer.count)
unfolding counted_of ticked_by edged_by
counted_halted f before tick h r = pick_all Same tick _ _ (pulsed_halted _ _ _ h r) (pick_all Same _ _ _ (pulsed_halted _ _ _ h r) (r, refl))
  where
    Same : Counted → Type 0
    Same c = (c.timer.running ≡ false) × (c.timer.count ≡ f.timer.count)

pub record Halted (n : ℕ) (f : Front) : Type 0 where
  pub chosen : is_timer (mode_of f.acr) ≡ false
  pub stopped : f.timer.running ≡ false
  pub count : f.timer.count ≡ n

halted_next : (n : ℕ) (f : Front) (e : Event) → leaves_counter e ≡ true → Halted n f → Halted n (front_then f e)
halted_next n f e l h =
    let stays = rw (← front_next_lem f e) at (go e l) in
    record { chosen = rw (acr_left f e l) h.chosen; stopped = stays.0; count = stays.1 ∙ h.count }
  where
    clocked : (g : Front) (before : ℕ) (tick a b : Bool) → is_timer (mode_of g.acr) ≡ false → g.timer.running ≡ false
        → ((transmitted_by (counted_of g before tick).timer (mode_of g.acr) a b).running ≡ false)
        × ((transmitted_by (counted_of g before tick).timer (mode_of g.acr) a b).count ≡ g.timer.count)
    clocked g before tick a b c r =
        let first = counted_halted g before tick c r in
        let last = pulsed_halted (counted_of g before tick).timer (mode_of g.acr) (transmitter_pulses (mode_of g.acr) a b) c first.0 in
        (last.0, last.1 ∙ first.1)

    go : (e : Event) → leaves_counter e ≡ true → ((front_next f e).timer.running ≡ false) × ((front_next f e).timer.count ≡ f.timer.count)
    go ChipReset l = absurd (true≢false (sym l))
    go (Read n) l = rw (read_left f n l) (h.stopped, refl)
    go (Write n byte) l = rw (written_left f n byte l) (h.stopped, refl)
    go Acknowledge l = (h.stopped, refl)
    go (Pins levels) l = clocked (front_moved f levels) f.inputs.levels false _ _ h.chosen h.stopped
    go Tick l = clocked f f.inputs.levels true _ _ h.chosen h.stopped

pub halted_over : (n : ℕ) (f : Front) (es : List Event) → each_of leaves_counter es ≡ true → Halted n f → Halted n (over front_then f es)
unfolding over
halted_over n f [] l h = h
halted_over n f (e ∷ es) l h =
    let both = (and-eq-true_iff (leaves_counter e) _).0 l in
    halted_over n (front_then f e) es both.1 (halted_next n f e both.0 h)

-- a stop
pub halted_stop : (f : Front) → is_timer (mode_of f.acr) ≡ false → Halted f.timer.count (front_then f (Read 15))
unfolding stopped_of pick
halted_stop f h = rw (front_read_lem f 15, h) (record { chosen = h; stopped = refl; count = refl })

-- a change to a counter mode
pub halted_change : (f : Front) (byte : ℕ) → eqb (mode_of f.acr) (mode_of byte) ≡ false → is_timer (mode_of byte) ≡ false
    → Halted f.timer.preload (front_then f (Write 4 byte))
unfolding pick
halted_change f byte d h =
    rw (front_written_lem f 4 byte, obeys.changes f.timer f.acr byte d, sym (timer_mode (mode_of byte)) ∙ h) (record { chosen = h; stopped = refl; count = refl })

-- ---- a timer that was stopped ----

-- a front with ISR bit 3 clear: all else of it
abbrev pub cleared : Front → Front
cleared f = with_timer f (with_ready f.timer false)

-- what a pulse does but to the bit
abbrev cleared_by : Counted → Counted
cleared_by c = record { timer = with_ready c.timer false; toggled = c.toggled }

pulsed_cleared : (t : Timer) (mode : ℕ) (pulse : Bool) → cleared_by (pulsed_by (with_ready t false) mode pulse) ≡ cleared_by (pulsed_by t mode pulse)
unfolding pulsed_by counter_pulsed timer_pulsed pick
pulsed_cleared t mode false = refl
pulsed_cleared t mode true = go (is_timer mode) t.running (eqb (counted_down t.count) 0) refl refl refl
  where
    go : (timer runs ends : Bool) → is_timer mode ≡ timer → t.running ≡ runs → eqb (counted_down t.count) 0 ≡ ends
        → cleared_by (pulsed_by (with_ready t false) mode true) ≡ cleared_by (pulsed_by t mode true)
    go true runs true h r z = rw (h, z)
    go true runs false h r z = rw (h, z)
    go false true ends h r z = rw (h, r)
    go false false ends h r z = rw (h, r)

counted_cleared : (f : Front) (before : ℕ) (tick : Bool) → cleared_by (counted_of (cleared f) before tick) ≡ cleared_by (counted_of f before tick)
unfolding counted_of ticked_by edged_by pick
counted_cleared f before true = pulsed_cleared _ (mode_of f.acr) _
counted_cleared f before false = go (rises_of before f.inputs.levels 2) refl
  where
    go : (t : Bool) → rises_of before f.inputs.levels 2 ≡ t → cleared_by (counted_of (cleared f) before false) ≡ cleared_by (counted_of f before false)
    go true e = rw e (pulsed_cleared _ (mode_of f.acr) _)
    go false e = rw e

clocks_cleared : (ch : Channel) (f : Front) (before : ℕ) (tick : Bool) → clocks_of ch (cleared f) before tick ≡ clocks_of ch f before tick
unfolding clocks_of
clocks_cleared A f before tick = rw (ap (λ (c : Counted). c.toggled) (counted_cleared f before tick))
clocks_cleared B f before tick = rw (ap (λ (c : Counted). c.toggled) (counted_cleared f before tick))

clocked_cleared : (f : Front) (before : ℕ) (tick : Bool) → cleared (front_clocked (cleared f) before tick) ≡ cleared (front_clocked f before tick)
clocked_cleared f before tick =
    rw (clocks_cleared A f before tick, clocks_cleared B f before tick)
    (ap (with_timer (front_clocked f before tick))
    (sym (timer-cleared (counted_of (cleared f) before tick))
    ∙ ap (λ (c : Counted). with_ready (transmitted_by c.timer (mode_of f.acr) a b) false) (counted_cleared f before tick)
    ∙ timer-cleared (counted_of f before tick)))
  where
    a : Bool
    a = (clocks_of A f before tick).one

    b : Bool
    b = (clocks_of B f before tick).one

    timer-cleared : (c : Counted)
        → with_ready (transmitted_by (cleared_by c).timer (mode_of f.acr) a b) false
        ≡ with_ready (transmitted_by c.timer (mode_of f.acr) a b) false
    timer-cleared c = ap (λ (c : Counted). c.timer) (pulsed_cleared c.timer (mode_of f.acr) (transmitter_pulses (mode_of f.acr) a b))

cleared_next : (f : Front) (e : Event) → leaves_counter e ≡ true → cleared (front_then (cleared f) e) ≡ cleared (front_then f e)
cleared_next f e l = rw (front_next_lem f e, front_next_lem (cleared f) e) (go e l)
  where
    go : (e : Event) → leaves_counter e ≡ true → cleared (front_next (cleared f) e) ≡ cleared (front_next f e)
    go ChipReset l = refl
    go (Read n) l = rw (read_left f n l, read_left (cleared f) n l)
    go (Write n byte) l = rw (written_left f n byte l, written_left (cleared f) n byte l)
    go Acknowledge l = refl
    go (Pins levels) l = clocked_cleared (front_moved f levels) f.inputs.levels false
    go Tick l = clocked_cleared f f.inputs.levels true

pub cleared_over : (f g : Front) (es : List Event) → each_of leaves_counter es ≡ true → cleared f ≡ cleared g
    → cleared (over front_then f es) ≡ cleared (over front_then g es)
unfolding over
cleared_over f g [] l h = h
cleared_over f g (e ∷ es) l h =
    let both = (and-eq-true_iff (leaves_counter e) _).0 l in
    cleared_over (front_then f e) (front_then g e) es both.1
    (sym (cleared_next f e both.0) ∙ ap (λ (k : Front). cleared (front_then k e)) h ∙ cleared_next g e both.0)

-- the stop itself
pub cleared_stop : (f : Front) → is_timer (mode_of f.acr) ≡ true → cleared (front_then f (Read 15)) ≡ cleared f
unfolding pick
cleared_stop f h = rw (front_read_lem f 15, obeys.stops_timer f.timer (mode_of f.acr) (sym (timer_mode (mode_of f.acr)) ∙ h))
