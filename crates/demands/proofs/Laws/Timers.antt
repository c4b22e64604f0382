-- The counter/timer in the front run alone: its /16 phases count ticks and rising edges of IP2 whatever else happens, and its preload is what was
-- written. Assumes nothing.
use Prim.Native.Nat.{ℕ, suc, ◌%◌}
use mathlib.Core.Path.{◌≡◌, refl, sym, ◌∙◌, ap}
use mathlib.Core.Bool.{Bool, true, false}
use mathlib.Core.List.{List, [], ◌∷◌}
use lib.Dec.{eqb}
use borrow.Author.Tests.{eqb-true}
use Rattle.format.specs.declared.counts.Pulses.{Pulses}
use Rattle.format.specs.declared.counts.Ticks.{Ticks}
use Rattle.format.specs.Pick.{pick}
use Rattle.format.proofs.Laws.Pick.{pick_all}
use Rattle.timer_state.specs.declared.counting.Counted.{Counted}
use Rattle.timer_state.specs.declared.counting.Timer.{Timer}
use Rattle.timer_state.specs.Counting.{mode_of, pulsed_by}
use Rattle.timer.specs.Timer.{ticked_by, edged_by, started_of, stopped_of, mode_changed}
use Rattle.timer.proofs.Sources.{leaves, sources}
use Rattle.inputs.specs.Inputs.{rises_of, moved_of}
use Rattle.front.specs.declared.front.Front.{Front}
use Rattle.front.specs.Front.{front_at}
use Rattle.front_clocks.specs.Clocking.{counted_of}
use Rattle.events.specs.declared.events.Event.{Event}
use Rattle.events.specs.declared.events.Event.TheVariants.{ChipReset, Read, Write, Acknowledge, Pins, Tick}
use Rattle.demands.specs.Chip.{over}
use Rattle.demands.specs.Told.{levels_then}
use Rattle.demands.specs.Clocks.{front_then, front_after}
use Rattle.demands.specs.Counter.{preload_then, preload_after, Elapsed, elapsed_then, elapsed_after}
use Rattle.demands.proofs.Laws.Fronts.{front_read, front_written, front_moved, front_next, front_next_lem}
use Rattle.demands.proofs.Laws.Told.{follows, pick_with, levels_next}

-- ---- what leaves both /16 phases alone ----

record SamePhases (t u : Timer) : Type 0 where
  ticks : u.ticks ≡ t.ticks
  edges : u.edges ≡ t.edges

pulsed_phases : (t : Timer) (mode : ℕ) (pulse : Bool) → SamePhases t (pulsed_by t mode pulse).timer
pulsed_phases t mode true = record { ticks = (leaves.pulses t mode).ticks; edges = (leaves.pulses t mode).edges }
pulsed_phases t mode false = rw (leaves.still t mode) (record { ticks = refl; edges = refl })

read_phases : (f : Front) (n : ℕ) → SamePhases f.timer (front_read f n).timer
unfolding started_of stopped_of
read_phases f n = record { ticks = both.0; edges = both.1 }
  where
    Same : Timer → Type 0
    Same u = (u.ticks ≡ f.timer.ticks) × (u.edges ≡ f.timer.edges)

    both : Same (front_read f n).timer
    both =
        pick_all Same (eqb n 14) _ _ (pick_all Same _ _ _ (refl, refl) (refl, refl))
        (pick_all Same (eqb n 15) _ _ (pick_all Same _ _ _ (refl, refl) (refl, refl)) (refl, refl))

written_phases : (f : Front) (n byte : ℕ) → SamePhases f.timer (front_written f n byte).timer
unfolding mode_changed
written_phases f n byte = record { ticks = both.0; edges = both.1 }
  where
    Same : Timer → Type 0
    Same u = (u.ticks ≡ f.timer.ticks) × (u.edges ≡ f.timer.edges)

    both : Same (front_written f n byte).timer
    both =
        pick_all Same (eqb n 4) _ _ (pick_all Same _ _ _ (refl, refl) (refl, refl))
        (pick_all Same (eqb n 6) _ _ (refl, refl) (pick_all Same (eqb n 7) _ _ (refl, refl) (refl, refl)))

-- ---- the phases, and the pins' levels ----

-- where both phases stand after so many ticks and edges
record PhasesAt (m k : ℕ) (t : Timer) : Type 0 where
  ticks : t.ticks.0 ≡ m % 16
  edges : t.edges.0 ≡ k % 16

kept_at : (m k : ℕ) (t u : Timer) → SamePhases t u → PhasesAt m k t → PhasesAt m k u
kept_at m k t u h p =
    record { ticks = ap (λ (x : Ticks). x.0) h.ticks ∙ p.ticks; edges = ap (λ (x : Pulses). x.0) h.edges ∙ p.edges }

pulsed_at : (m k : ℕ) (t : Timer) (mode : ℕ) (pulse : Bool) → PhasesAt m k t → PhasesAt m k (pulsed_by t mode pulse).timer
pulsed_at m k t mode pulse p = kept_at m k t _ (pulsed_phases t mode pulse) p

ticked_at : (m k : ℕ) (t : Timer) (mode : ℕ) → PhasesAt m k t → PhasesAt (suc m) k (ticked_by t mode).timer
ticked_at m k t mode p = rw (sources.ticks t mode m p.ticks) (pulsed_at (suc m) k _ mode _ (record { ticks = refl; edges = p.edges }))

edged_at : (m k : ℕ) (t : Timer) (mode : ℕ) → PhasesAt m k t → PhasesAt m (suc k) (edged_by t mode).timer
edged_at m k t mode p = rw (sources.edges t mode k p.edges) (pulsed_at m (suc k) _ mode _ (record { ticks = p.ticks; edges = refl }))

-- the front after these ticks and edges
pub record Phased (x : Elapsed) (f : Front) : Type 0 where
  pub ticks : f.timer.ticks.0 ≡ x.ticks % 16
  pub edges : f.timer.edges.0 ≡ x.edges % 16
  pub levels : f.inputs.levels ≡ x.levels

-- a pin event, before the transmitters' clocks
abbrev pub pins_counted : Front → ℕ → ℕ → Counted
pins_counted f before levels = pick (rises_of before levels 2) (edged_by f.timer (mode_of f.acr)) (record { timer = f.timer; toggled = false })

phases_next : (x : Elapsed) (f : Front) (e : Event) → Phased x f
    → PhasesAt (elapsed_then x e).ticks (elapsed_then x e).edges (front_next f e).timer
unfolding elapsed_then front_at counted_of moved_of pick
phases_next x f e p = go e
  where
    here : PhasesAt x.ticks x.edges f.timer
    here = record { ticks = p.ticks; edges = p.edges }

    moved : (levels : ℕ) (t : Bool) → rises_of x.levels levels 2 ≡ t
        → PhasesAt (elapsed_then x (Pins levels)).ticks (elapsed_then x (Pins levels)).edges
        (pins_counted f x.levels levels).timer
    moved levels true e = rw e (edged_at x.ticks x.edges f.timer (mode_of f.acr) here)
    moved levels false e = rw e here

    go : (e : Event) → PhasesAt (elapsed_then x e).ticks (elapsed_then x e).edges (front_next f e).timer
    go ChipReset = record { ticks = refl; edges = refl }
    go (Read n) = kept_at _ _ f.timer _ (read_phases f n) here
    go (Write n byte) = kept_at _ _ f.timer _ (written_phases f n byte) here
    go Acknowledge = here
    go (Pins levels) = rw p.levels (pulsed_at _ _ _ (mode_of f.acr) _ (moved levels (rises_of x.levels levels 2) refl))
    go Tick = pulsed_at _ _ _ (mode_of f.acr) _ (ticked_at x.ticks x.edges f.timer (mode_of f.acr) here)

levels_elapsed : (x : Elapsed) (e : Event) → (elapsed_then x e).levels ≡ levels_then x.levels e
unfolding elapsed_then
levels_elapsed x ChipReset = refl
levels_elapsed x (Read n) = refl
levels_elapsed x (Write n byte) = refl
levels_elapsed x Acknowledge = refl
levels_elapsed x (Pins levels) = pick_all (λ (y : Elapsed). y.levels ≡ levels) _ _ _ refl refl
levels_elapsed x Tick = refl

pub phased_next : (x : Elapsed) (f : Front) (e : Event) → Phased x f → Phased (elapsed_then x e) (front_then f e)
phased_next x f e p =
    let told = phases_next x f e p in
    record {
      ticks = rw (front_next_lem f e) told.ticks;
      edges = rw (front_next_lem f e) told.edges;
      levels = levels_next f e ∙ rw p.levels (sym (levels_elapsed x e));
    }

phased_over : (x : Elapsed) (f : Front) (es : List Event) → Phased x f → Phased (over elapsed_then x es) (over front_then f es)
unfolding over
phased_over x f [] p = p
phased_over x f (e ∷ es) p = phased_over (elapsed_then x e) (front_then f e) es (phased_next x f e p)

pub phased_told : (levels : ℕ) (es : List Event) → Phased (elapsed_after levels es) (front_after levels es)
unfolding front_at
phased_told levels es = phased_over _ (front_at levels) es (record { ticks = refl; edges = refl; levels = refl })

-- ---- the preload ----

pulsed_preload : (t : Timer) (mode : ℕ) (pulse : Bool) → (pulsed_by t mode pulse).timer.preload ≡ t.preload
pulsed_preload t mode true = (leaves.pulses t mode).preload
pulsed_preload t mode false = rw (leaves.still t mode)

counted_preload : (f : Front) (before : ℕ) (tick : Bool) → (counted_of f before tick).timer.preload ≡ f.timer.preload
unfolding counted_of ticked_by edged_by
counted_preload f before tick = pick_all Same tick _ _ (pulsed_preload _ _ _) (pick_all Same _ _ _ (pulsed_preload _ _ _) refl)
  where
    Same : Counted → Type 0
    Same c = c.timer.preload ≡ f.timer.preload

changed_preload : (t : Timer) (before after : ℕ) → (mode_changed t before after).preload ≡ t.preload
unfolding mode_changed
changed_preload t before after = pick_all (λ (u : Timer). u.preload ≡ t.preload) _ _ _ refl refl

read_preload : (f : Front) (n : ℕ) → (front_read f n).timer.preload ≡ f.timer.preload
unfolding started_of stopped_of
read_preload f n = pick_all Same (eqb n 14) _ _ (pick_all Same _ _ _ refl refl) (pick_all Same (eqb n 15) _ _ (pick_all Same _ _ _ refl refl) refl)
  where
    Same : Timer → Type 0
    Same t = t.preload ≡ f.timer.preload

preload_next : (f : Front) (e : Event) → (front_then f e).timer.preload ≡ preload_then f.timer.preload e
unfolding front_at pick
preload_next f e = rw (front_next_lem f e) (go e)
  where
    preload : Timer → ℕ
    preload t = t.preload

    written : (n byte : ℕ) (t : Bool) → eqb n 4 ≡ t → (front_next f (Write n byte)).timer.preload ≡ preload_then f.timer.preload (Write n byte)
    written n byte true h =
        let z : n ≡ 4 = eqb-true n 4 h in
        rw z (changed_preload f.timer f.acr byte)
    written n byte false h = rw h (pick_with preload (eqb n 6) refl (pick_with preload (eqb n 7) refl refl))

    go : (e : Event) → (front_next f e).timer.preload ≡ preload_then f.timer.preload e
    go ChipReset = refl
    go (Read n) = read_preload f n
    go (Write n byte) = written n byte (eqb n 4) refl
    go Acknowledge = refl
    go (Pins levels) = pulsed_preload _ (mode_of f.acr) _ ∙ counted_preload (front_moved f levels) f.inputs.levels false
    go Tick = pulsed_preload _ (mode_of f.acr) _ ∙ counted_preload f f.inputs.levels true

pub preload_told : (levels : ℕ) (es : List Event) → preload_after es ≡ (front_after levels es).timer.preload
unfolding front_at
preload_told levels es = follows (λ f. f.timer.preload) preload_then preload_next (front_at levels) es
