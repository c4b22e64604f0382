-- What pulses the counter/timer. A /16 phase is m % 16 after m of its own, by `counted_up`; nothing else that can happen touches it. Assumes
-- nothing.
use Rattle.std.proofs.Common.{◌≡◌, ℕ, suc, ◌+◌, ◌%◌, Bool, true, eqb, List, [], ◌∷◌, refl, ap, ◌∙◌, add-zero, add-one, arith}
use Rattle.format.specs.declared.counts.Pulses.{Pulses}
use Rattle.format.specs.declared.counts.Ticks.{Ticks}
use Rattle.format.specs.Digits.{bit}
use Rattle.format.specs.Pick.{pick}
use Rattle.format.proofs.Laws.Pick.{pick_all}
use Rattle.dividers.specs.declared.divider.Divided.{Divided}
use Rattle.dividers.specs.Divider.{divided_of, sixteenth_of}
use Rattle.dividers.proofs.Laws.Divider.{ticks_of, pulses_of, divided_at, sixteenth_at}
use Rattle.timer_state.specs.declared.counting.Counted.{Counted}
use Rattle.timer_state.specs.declared.counting.Timer.{Timer}
use Rattle.timer_state.specs.Counting.{with_phases, mode_of, is_timer, counted_down, tick_pulses, edge_pulses, transmitter_pulses, counter_pulsed, timer_pulsed, pulsed_by}
use Rattle.timer.specs.Timer.{ticked_by, edged_by, transmitted_by, started_of, stopped_of, mode_changed}
use Rattle.timer.specs.Counts.{Kept, Leaves}
use Rattle.timer.specs.Modes.{pulse_in, a_tick, an_edge}
use Rattle.timer.specs.Sources.{Ways, Sources, Happening, is_tick, is_edge, how_many, happens, since, AlwaysRuns}
use Rattle.timer.specs.Sources.Happening.{tick, edge, start, stop, bits, acr, preload}
use Rattle.timer.proofs.Modes.{modes}

-- ---- what leaves the preload and the phases alone ----

same : (t : Timer) → Kept t t
same t = record { preload = refl; ticks = refl; edges = refl }

counter_keeps : (t : Timer) → Kept t (counter_pulsed t)
unfolding counter_pulsed
counter_keeps t = pick_all (Kept t) t.running _ _ (record { preload = refl; ticks = refl; edges = refl }) (same t)

timer_keeps : (t : Timer) → Kept t (timer_pulsed t).timer
unfolding timer_pulsed
timer_keeps t =
    pick_all (λ (c : Counted). Kept t c.timer) (eqb (counted_down t.count) 0) _ _
    (record { preload = refl; ticks = refl; edges = refl })
    (record { preload = refl; ticks = refl; edges = refl })

pulse_keeps : (t : Timer) (mode : ℕ) (pulse : Bool) → Kept t (pulsed_by t mode pulse).timer
unfolding pulsed_by
pulse_keeps t mode pulse =
    pick_all (λ (c : Counted). Kept t c.timer) pulse _ _
    (pick_all (λ (c : Counted). Kept t c.timer) (is_timer mode) _ _ (timer_keeps t) (counter_keeps t))
    (same t)

start_keeps : (t : Timer) (mode : ℕ) → Kept t (started_of t mode)
unfolding started_of
start_keeps t mode =
    pick_all (Kept t) (is_timer mode) _ _ (record { preload = refl; ticks = refl; edges = refl }) (record { preload = refl; ticks = refl; edges = refl })

stop_keeps : (t : Timer) (mode : ℕ) → Kept t (stopped_of t mode)
unfolding stopped_of
stop_keeps t mode =
    pick_all (Kept t) (is_timer mode) _ _ (record { preload = refl; ticks = refl; edges = refl }) (record { preload = refl; ticks = refl; edges = refl })

change_keeps : (t : Timer) (before after : ℕ) → Kept t (mode_changed t before after)
unfolding mode_changed
change_keeps t before after = pick_all (Kept t) (eqb (mode_of before) (mode_of after)) _ _ (same t) (record { preload = refl; ticks = refl; edges = refl })

pub leaves : Leaves pulsed_by
unfolding pulsed_by pick
leaves = record { still = λ t mode. refl; pulses = λ t mode. pulse_keeps t mode true }

-- ---- the sources ----

abbrev pub ours : Ways
ours =
    record { tick = ticked_by; edge = edged_by; bits = transmitted_by; start = started_of; stop = stopped_of; change = mode_changed }

-- a phase that stands at m % 16 is that count
ticks_at : (t : Timer) (m : ℕ) → t.ticks.0 ≡ m % 16 → t.ticks ≡ ticks_of (m % 16)
ticks_at t m e = rw e

edges_at : (t : Timer) (m : ℕ) → t.edges.0 ≡ m % 16 → t.edges ≡ pulses_of (m % 16)
edges_at t m e = rw e

ticked : (t : Timer) (mode m : ℕ) → t.ticks.0 ≡ m % 16
    → ticked_by t mode ≡ pulsed_by (with_phases t (ticks_of (suc m % 16)) t.edges) mode (pulse_in mode (a_tick (eqb (suc m % 16) 0)))
unfolding ticked_by
ticked t mode m e =
    ap (λ (d : Divided Ticks). pulsed_by (with_phases t d.phase t.edges) mode (tick_pulses mode d.pulse))
    (ap (λ (phase : Ticks). divided_of phase (ticks_of 16)) (ticks_at t m e) ∙ divided_at (ticks_of 16) m (omega arith))
    ∙ ap (pulsed_by _ mode) (modes.tick mode _)

edged : (t : Timer) (mode m : ℕ) → t.edges.0 ≡ m % 16
    → edged_by t mode ≡ pulsed_by (with_phases t t.ticks (pulses_of (suc m % 16))) mode (pulse_in mode (an_edge (eqb (suc m % 16) 0)))
unfolding edged_by
edged t mode m e =
    ap (λ (d : Divided Pulses). pulsed_by (with_phases t t.ticks d.phase) mode (edge_pulses mode d.pulse))
    (ap sixteenth_of (edges_at t m e) ∙ sixteenth_at m)
    ∙ ap (pulsed_by _ mode) (modes.edge mode _)

pub sources : Sources ours pulsed_by
sources = record { ticks = ticked; edges = edged; bits = λ t mode a b. ap (λ (pulse : Bool). (pulsed_by t mode pulse).timer) (modes.bits mode a b) }

-- ---- both phases always run ----

-- where both stand after so many ticks and edges
record At (m k : ℕ) (t : Timer) : Type 0 where
  ticks : t.ticks.0 ≡ m % 16
  edges : t.edges.0 ≡ k % 16

kept_at : (m k : ℕ) (t u : Timer) → At m k t → Kept t u → At m k u
kept_at m k t u a h = record { ticks = ap (λ (x : Ticks). x.0) h.ticks ∙ a.ticks; edges = ap (λ (x : Pulses). x.0) h.edges ∙ a.edges }

pulsed_at : (m k : ℕ) (t : Timer) (mode : ℕ) (pulse : Bool) → At m k t → At m k (pulsed_by t mode pulse).timer
pulsed_at m k t mode pulse a = kept_at m k t _ a (pulse_keeps t mode pulse)

more_at : (m k : ℕ) (x : Happening) (t : Timer) (r : ℕ) → At m k t → At (m + bit (is_tick x)) (k + bit (is_edge x)) (happens ours x (t, r)).0
more_at m k tick t r a =
    rw (add-one m, add-zero k, ticked t (mode_of r) m a.ticks) (pulsed_at _ _ _ (mode_of r) _ (record { ticks = refl; edges = a.edges }))
more_at m k edge t r a =
    rw (add-zero m, add-one k, edged t (mode_of r) k a.edges) (pulsed_at _ _ _ (mode_of r) _ (record { ticks = a.ticks; edges = refl }))
more_at m k start t r a = rw (add-zero m, add-zero k) (kept_at m k t _ a (start_keeps t (mode_of r)))
more_at m k stop t r a = rw (add-zero m, add-zero k) (kept_at m k t _ a (stop_keeps t (mode_of r)))
more_at m k (bits x y) t r a = rw (add-zero m, add-zero k) (pulsed_at m k t (mode_of r) (transmitter_pulses (mode_of r) x y) a)
more_at m k (acr byte) t r a = rw (add-zero m, add-zero k) (kept_at m k t _ a (change_keeps t r byte))
more_at m k (preload n) t r a = rw (add-zero m, add-zero k) (record { ticks = a.ticks; edges = a.edges })

all_at : (xs : List Happening) → At (how_many is_tick xs) (how_many is_edge xs) (since ours xs).0
unfolding how_many since
all_at [] = record { ticks = refl; edges = refl }
all_at (x ∷ xs) = more_at (how_many is_tick xs) (how_many is_edge xs) x (since ours xs).0 (since ours xs).1 (all_at xs)

pub always_runs : AlwaysRuns ours
always_runs = record { ticks = λ xs. (all_at xs).ticks; edges = λ xs. (all_at xs).edges }
