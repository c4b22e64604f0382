-- What an event that leaves the counter/timer alone does to it: the pulse that its clock has then, or none. So after any list of them it is where so
-- many pulses bring it. Assumes nothing.
use Prim.Native.Nat.{ℕ, suc, ◌+◌, ◌%◌}
use mathlib.Core.Path.{◌≡◌, refl, sym, ◌∙◌, ap}
use mathlib.Core.Bool.{Bool, true, false, not, and-eq-true_iff, true≢false}
use mathlib.Core.List.{List, [], ◌∷◌, ◌++◌, append-nil, append_assoc}
use native.Mathlib.Numerals.{add-one}
use native.Mathlib.Nat.{add-zero, add_assoc}
use lib.Dec.{eqb}
use Rattle.format.specs.Digits.{bit}
use Rattle.format.specs.Pick.{pick}
use Rattle.timer_state.specs.declared.counting.Timer.{Timer}
use Rattle.timer_state.specs.Counting.{with_phases, mode_of, is_timer, counted_down, counter_pulsed, timer_pulsed, pulsed_by}
use Rattle.timer.specs.Timer.{ticked_by, edged_by, transmitted_by}
use Rattle.timer.specs.Counts.{after_pulses}
use Rattle.timer.specs.Modes.{Comes, pulse_in, a_tick, an_edge, ones}
use Rattle.timer.proofs.Modes.{first, none_comes, pulsed_once}
use Rattle.timer.proofs.Sources.{leaves, sources}
use Rattle.inputs.specs.Inputs.{rises_of, moved_of}
use Rattle.front.specs.declared.front.Front.{Front}
use Rattle.front.specs.Front.{front_at}
use Rattle.front_clocks.specs.Clocking.{counted_of}
use Rattle.events.specs.declared.events.Event.{Event}
use Rattle.events.specs.declared.events.Event.TheVariants.{ChipReset, Read, Write, Acknowledge, Pins, Tick}
use Rattle.demands.specs.Chip.{and_then, over, each_of}
use Rattle.demands.specs.Told.{last_written}
use Rattle.demands.specs.Clocks.{front_then, front_after, one_after}
use Rattle.demands.specs.Counter.{elapsed_after, comes, pulse_at, pulses_from, leaves_counter}
use Rattle.demands.proofs.Laws.Fronts.{front_read, front_written, front_next_lem}
use Rattle.demands.proofs.Laws.Told.{over_then, acr_next}
use Rattle.demands.proofs.Laws.Timers.{Phased, pins_counted, phased_told}

-- ---- the phases apart ----

-- a counter/timer with both phases at 0: all else of it
abbrev pub core : Timer → Timer
core t = with_phases t (record { 0 = 0 }) (record { 0 = 0 })

-- a pulse does not look at them
core_pulsed : (t : Timer) (mode : ℕ) (pulse : Bool) → core (pulsed_by t mode pulse).timer ≡ (pulsed_by (core t) mode pulse).timer
unfolding pulsed_by counter_pulsed timer_pulsed pick
core_pulsed t mode false = refl
core_pulsed t mode true = go (is_timer mode) t.running (eqb (counted_down t.count) 0) refl refl refl
  where
    go : (timer runs ends : Bool) → is_timer mode ≡ timer → t.running ≡ runs → eqb (counted_down t.count) 0 ≡ ends
        → core (pulsed_by t mode true).timer ≡ (pulsed_by (core t) mode true).timer
    go true runs true h r z = rw (h, z)
    go true runs false h r z = rw (h, z)
    go false true ends h r z = rw (h, r)
    go false false ends h r z = rw (h, r)

-- ---- a tick or a pin event: the pulse that its clock has with it, or none ----

ticked_core : (t : Timer) (mode m : ℕ) → t.ticks.0 ≡ m % 16
    → core (ticked_by t mode).timer ≡ (pulsed_by (core t) mode (pulse_in mode (a_tick (eqb (suc m % 16) 0)))).timer
ticked_core t mode m p = rw (sources.ticks t mode m p) (core_pulsed _ mode _)

edged_core : (t : Timer) (mode m : ℕ) → t.edges.0 ≡ m % 16
    → core (edged_by t mode).timer ≡ (pulsed_by (core t) mode (pulse_in mode (an_edge (eqb (suc m % 16) 0)))).timer
edged_core t mode m p = rw (sources.edges t mode m p) (core_pulsed _ mode _)

-- where no clock comes it stays
quiet : (t : Timer) (mode : ℕ) → t ≡ (pulsed_by t mode (pulse_in mode (ones false false))).timer
unfolding pulsed_by pick
quiet t mode = rw (none_comes mode)

-- then come the transmitters' 1X clocks
transmitted_core : (t u : Timer) (mode : ℕ) (c : Comes) → core t ≡ (pulsed_by (core u) mode (pulse_in mode (first c))).timer
    → core (transmitted_by t mode c.txca c.txcb) ≡ (pulsed_by (core u) mode (pulse_in mode c)).timer
transmitted_core t u mode c h =
    ap core (sources.bits t mode c.txca c.txcb)
    ∙ core_pulsed t mode _
    ∙ ap (λ (x : Timer). (pulsed_by x mode (pulse_in mode (ones c.txca c.txcb))).timer) h
    ∙ pulsed_once (core u) c mode

pub timer_tick : (levels : ℕ) (es : List Event)
    → core (front_then (front_after levels es) Tick).timer
    ≡ (pulsed_by (core (front_after levels es).timer) (mode_of (front_after levels es).acr)
    (pulse_at (mode_of (front_after levels es).acr) levels es Tick)).timer
unfolding counted_of comes one_after pick
timer_tick levels es =
    let f : Front = front_after levels es in
    rw (front_next_lem f Tick)
    (transmitted_core _ f.timer (mode_of f.acr) (comes levels es Tick)
    (ticked_core f.timer (mode_of f.acr) _ (phased_told levels es).ticks))

pub timer_pins : (levels : ℕ) (es : List Event) (x : ℕ)
    → core (front_then (front_after levels es) (Pins x)).timer
    ≡ (pulsed_by (core (front_after levels es).timer) (mode_of (front_after levels es).acr)
    (pulse_at (mode_of (front_after levels es).acr) levels es (Pins x))).timer
unfolding counted_of moved_of comes one_after pulsed_by pick
timer_pins levels es x =
    rw (front_next_lem f (Pins x))
    (transmitted_core _ f.timer (mode_of f.acr) (comes levels es (Pins x)) (rw p.levels (go (rises_of was x 2) refl)))
  where
    f : Front
    f = front_after levels es

    p : Phased (elapsed_after levels es) f
    p = phased_told levels es

    was : ℕ
    was = (elapsed_after levels es).levels

    go : (t : Bool) → rises_of was x 2 ≡ t
        → core (pins_counted f was x).timer
        ≡ (pulsed_by (core f.timer) (mode_of f.acr) (pulse_in (mode_of f.acr) (first (comes levels es (Pins x))))).timer
    go true e = rw e (edged_core f.timer (mode_of f.acr) _ p.edges)
    go false e = rw e (quiet (core f.timer) (mode_of f.acr))

-- ---- an event that leaves the counter/timer alone ----

pub not_true : (t : Bool) → not t ≡ true → t ≡ false
not_true true h = sym h
not_true false h = refl

-- a read but of 14 and 15, a write but of 4, 6 and 7
pub read_left : (f : Front) (n : ℕ) → leaves_counter (Read n) ≡ true → (front_read f n).timer ≡ f.timer
unfolding pick
read_left f n l =
    let h = (and-eq-true_iff (not (eqb n 14)) _).0 l in
    rw (not_true (eqb n 14) h.0, not_true (eqb n 15) h.1)

pub written_left : (f : Front) (n byte : ℕ) → leaves_counter (Write n byte) ≡ true → (front_written f n byte).timer ≡ f.timer
unfolding pick
written_left f n byte l =
    let h = (and-eq-true_iff (not (eqb n 4)) _).0 l in
    let k = (and-eq-true_iff (not (eqb n 6)) _).0 h.1 in
    rw (not_true (eqb n 4) h.0, not_true (eqb n 6) k.0, not_true (eqb n 7) k.1)

timer_next : (levels : ℕ) (es : List Event) (e : Event) → leaves_counter e ≡ true
    → core (front_then (front_after levels es) e).timer
    ≡ (pulsed_by (core (front_after levels es).timer) (mode_of (front_after levels es).acr)
    (pulse_at (mode_of (front_after levels es).acr) levels es e)).timer
unfolding comes
timer_next levels es ChipReset l = absurd (true≢false (sym l))
timer_next levels es (Read n) l =
    let f : Front = front_after levels es in
    rw (front_next_lem f (Read n)) (ap core (read_left f n l) ∙ quiet (core f.timer) (mode_of f.acr))
timer_next levels es (Write n byte) l =
    let f : Front = front_after levels es in
    rw (front_next_lem f (Write n byte)) (ap core (written_left f n byte l) ∙ quiet (core f.timer) (mode_of f.acr))
timer_next levels es Acknowledge l =
    let f : Front = front_after levels es in
    rw (front_next_lem f Acknowledge) (quiet (core f.timer) (mode_of f.acr))
timer_next levels es (Pins x) l = timer_pins levels es x
timer_next levels es Tick l = timer_tick levels es

-- ---- any list of them ----

after_more : (mode : ℕ) (t : Timer) (k : ℕ) (pulse : Bool)
    → after_pulses pulsed_by mode t (k + bit pulse) ≡ (pulsed_by (after_pulses pulsed_by mode t k) mode pulse).timer
unfolding after_pulses
after_more mode t k true = rw (add-one k)
after_more mode t k false = rw (add-zero k, leaves.still)

-- ACR stands
pub acr_left : (f : Front) (e : Event) → leaves_counter e ≡ true → (front_then f e).acr ≡ f.acr
unfolding pick
acr_left f e l = acr_next f e ∙ go e l
  where
    go : (e : Event) → leaves_counter e ≡ true → last_written 4 0 f.acr e ≡ f.acr
    go ChipReset l = absurd (true≢false (sym l))
    go (Read n) l = refl
    go (Write n byte) l = rw (not_true (eqb n 4) ((and-eq-true_iff (not (eqb n 4)) _).0 l).0)
    go Acknowledge l = refl
    go (Pins levels) l = refl
    go Tick l = refl

pub acr_over : (f : Front) (es : List Event) → each_of leaves_counter es ≡ true → (over front_then f es).acr ≡ f.acr
unfolding over
acr_over f [] l = refl
acr_over f (e ∷ es) l =
    let h = (and-eq-true_iff (leaves_counter e) _).0 l in
    acr_over (front_then f e) es h.1 ∙ acr_left f e h.0

-- a front whose counter/timer has gone on from t by k pulses
pub record Goes (mode k : ℕ) (t : Timer) (f : Front) : Type 0 where
  pub chosen : mode_of f.acr ≡ mode
  pub told : core f.timer ≡ after_pulses pulsed_by mode t k

goes_next : (mode k : ℕ) (t : Timer) (levels : ℕ) (es : List Event) (e : Event) → leaves_counter e ≡ true → Goes mode k t (front_after levels es)
    → Goes mode (k + bit (pulse_at mode levels es e)) t (front_after levels (and_then es e))
goes_next mode k t levels es e l g =
    let f : Front = front_after levels es in
    let pulse : Bool = pulse_at mode levels es e in
    rw (over_then front_then (front_at levels) es e)
    (record {
      chosen = ap mode_of (acr_left f e l) ∙ g.chosen;
      told =
          rw g.chosen at (timer_next levels es e l)
          ∙ ap (λ (u : Timer). (pulsed_by u mode pulse).timer) g.told
          ∙ sym (after_more mode t k pulse);
    })

pub goes_over : (mode k : ℕ) (t : Timer) (levels : ℕ) (es fs : List Event) → each_of leaves_counter fs ≡ true → Goes mode k t (front_after levels es)
    → Goes mode (k + pulses_from mode levels es fs) t (front_after levels (es ++ fs))
unfolding pulses_from
goes_over mode k t levels es [] l g = rw (append-nil es, add-zero k) g
goes_over mode k t levels es (e ∷ fs) l g =
    let h = (and-eq-true_iff (leaves_counter e) _).0 l in
    rw (append_assoc es (e ∷ []) fs, add_assoc k (bit (pulse_at mode levels es e)) (pulses_from mode levels (and_then es e) fs)) at
    (goes_over mode (k + bit (pulse_at mode levels es e)) t levels (and_then es e) fs h.1 (goes_next mode k t levels es e h.0 g))
