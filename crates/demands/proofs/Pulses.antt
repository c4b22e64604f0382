-- The pulses of the clocks are as the statement has them: the front holds what the events tell, and the laws of its clocks and of its counter/timer
-- say when a side has a pulse. Assumes nothing.
use Prim.Native.Nat.{ℕ, suc, ◌*◌, ◌/◌, ◌%◌, ◌≤◌, ◌<◌}
use mathlib.Core.Path.{◌≡◌, refl, sym, ◌∙◌, ap}
use mathlib.Core.Bool.{Bool, true, false, not, ◌&&◌, and-eq-true_iff, true≢false}
use mathlib.Core.List.{List, [], ◌∷◌, ◌++◌}
use native.Mathlib.Omega.{arith}
use lib.Dec.{eqb}
use borrow.Author.Tests.{ne_eqb, leb-true}
use Rattle.format.specs.Pick.{pick}
use Rattle.format.proofs.Laws.Pick.{pick_all}
use Rattle.dividers.specs.Rates.{period_of}
use Rattle.clocks.specs.Pulses.{Side, code_of}
use Rattle.timer_state.specs.declared.counting.Counted.{Counted}
use Rattle.timer_state.specs.declared.counting.Timer.{Timer}
use Rattle.timer_state.specs.Counting.{mode_of, is_timer, transmitter_pulses, counted_down, timer_pulsed}
use Rattle.timer_state.specs.Counting as Counting
use Rattle.timer.specs.Timer.{ticked_by, edged_by, transmitted_by}
use Rattle.timer.specs.Counts.{pulses_of}
use Rattle.timer.specs.Modes.{pulse_in, timer_in, a_tick, an_edge}
use Rattle.timer.proofs.Counts.{toggles}
use Rattle.timer.proofs.Modes.{timer_mode, first, none_comes, timer_first}
use Rattle.timer.proofs.Sources.{leaves, sources}
use Rattle.inputs.specs.Inputs.{rises_of, moved_of}
use Rattle.front.specs.declared.front.Front.{Front}
use Rattle.front.specs.Front.{front_at}
use Rattle.front_clocks.specs.Clocking.{counted_of}
use Rattle.events.specs.declared.events.Event.{Event}
use Rattle.events.specs.declared.events.Event.TheVariants.{ChipReset, Read, Write, Acknowledge, Pins, Tick}
use Rattle.demands.specs.Chip.{Channel, and_then, each_of}
use Rattle.demands.specs.Told.{Programmed, levels_after}
use Rattle.demands.specs.Registers.{acr_after, mode_after}
use Rattle.demands.specs.Counter.{preload_after, elapsed_after, comes, pulse_at, leaves_counter, since, Loaded}
use Rattle.demands.specs.Clocks.{front_then, front_after, side_of, pulsed_by, pulsed_after}
use Rattle.demands.specs.Counted.{timer_after}
use Rattle.demands.specs.Pulses.{ticks_after, tick_event, clocks, edge_by, code_after, Pulses}
use Rattle.demands.proofs.Laws.Fronts.{front_moved, front_next, front_next_lem}
use Rattle.demands.proofs.Laws.Told.{over_then, levels_told, acr_told, told}
use Rattle.demands.proofs.Laws.Restarts.{fixed_pulse}
use Rattle.demands.proofs.Laws.Timers.{Phased, phased_told, preload_told}
use Rattle.demands.proofs.Laws.Loads.{Since, since_phases, WentBy, loaded_told, timer_since}
use Rattle.demands.proofs.Laws.Clocks.{timer_pulse, timer_pins, pin_tick, pin_pulse}
use Rattle.demands.proofs.Counted.{timer_told}

pub code_told : (side : Side) (ch : Channel) (levels : ℕ) (es : List Event) → code_after side ch es ≡ code_of side (side_of ch (front_after levels es)).csr
code_told side ch levels es = ap (λ (p : Programmed). code_of side p.csr) (told ch levels es)

-- ---- codes 0 to 12 ----

fixed : (side : Side) (ch : Channel) (levels : ℕ) (es : List Event) (e : Event) → code_after side ch es < 13
    → pulsed_after side ch levels es e
    ≡ (tick_event e && eqb (suc (ticks_after ch es) % (period_of (eqb (acr_after es / 128) 1) (code_after side ch es)).0) 0)
fixed side ch levels es e h =
    rw (acr_told levels es, code_told side ch levels es) (fixed_pulse side ch levels es e (rw (code_told side ch levels es) at h))

-- ---- codes 14 and 15 ----

pin : (side : Side) (ch : Channel) (levels : ℕ) (es : List Event) (e : Event) → 13 < code_after side ch es
    → pulsed_after side ch levels es e ≡ edge_by side ch (levels_after levels es) e
unfolding pulsed_by
pin side ch levels es e h = rw (levels_told levels es) (go e)
  where
    f : Front
    f = front_after levels es

    code : 13 < code_of side (side_of ch f).csr
    code = rw (code_told side ch levels es) at h

    go : (e : Event) → pulsed_by side ch f e ≡ edge_by side ch f.inputs.levels e
    go ChipReset = refl
    go (Read n) = refl
    go (Write n byte) = refl
    go Acknowledge = refl
    go (Pins x) = pin_pulse side ch f x code
    go Tick = pin_tick side ch f code

-- ---- code 13: what the counter/timer toggles ----

abbrev toggled_by : Front → Event → Bool
toggled_by f ChipReset = false
toggled_by f (Read n) = false
toggled_by f (Write n byte) = false
toggled_by f Acknowledge = false
toggled_by f (Pins x) = (counted_of (front_moved f x) f.inputs.levels false).toggled
toggled_by f Tick = (counted_of f f.inputs.levels true).toggled

toggle : (side : Side) (ch : Channel) (f : Front) (e : Event) → code_of side (side_of ch f).csr ≡ 13 → pulsed_by side ch f e ≡ toggled_by f e
unfolding pulsed_by
toggle side ch f ChipReset c = refl
toggle side ch f (Read n) c = refl
toggle side ch f (Write n byte) c = refl
toggle side ch f Acknowledge c = refl
toggle side ch f (Pins x) c = timer_pins side ch f x c
toggle side ch f Tick c = timer_pulse side ch f c

-- in counter mode nothing
counter_toggles : (t : Timer) (mode : ℕ) (pulse : Bool) → is_timer mode ≡ false → (Counting.pulsed_by t mode pulse).toggled ≡ false
unfolding Counting.pulsed_by pick
counter_toggles t mode true h = rw h
counter_toggles t mode false h = refl

counted_toggles : (f : Front) (before : ℕ) (tick : Bool) → is_timer (mode_of f.acr) ≡ false → (counted_of f before tick).toggled ≡ false
unfolding counted_of ticked_by edged_by
counted_toggles f before tick h =
    pick_all Never tick _ _ (counter_toggles _ (mode_of f.acr) _ h) (pick_all Never _ _ _ (counter_toggles _ (mode_of f.acr) _ h) refl)
  where
    Never : Counted → Type 0
    Never c = c.toggled ≡ false

counter : (side : Side) (ch : Channel) (levels : ℕ) (es : List Event) (e : Event) → code_after side ch es ≡ 13 → timer_in (mode_after es) ≡ false
    → pulsed_after side ch levels es e ≡ false
counter side ch levels es e c h = toggle side ch f e (sym (code_told side ch levels es) ∙ c) ∙ go e
  where
    f : Front
    f = front_after levels es

    mode : is_timer (mode_of f.acr) ≡ false
    mode = timer_mode (mode_of f.acr) ∙ rw (acr_told levels es) at h

    go : (e : Event) → toggled_by f e ≡ false
    go ChipReset = refl
    go (Read n) = refl
    go (Write n byte) = refl
    go Acknowledge = refl
    go (Pins x) = counted_toggles (front_moved f x) f.inputs.levels false mode
    go Tick = counted_toggles f f.inputs.levels true mode

-- ---- in timer mode: by the output before and after ----

neither : (b : Bool) → false ≡ (not b && b)
neither true = refl
neither false = refl

-- whether a pulse or none, the toggle is the output's rise
rises : (t : Timer) (mode : ℕ) (pulse : Bool) → is_timer mode ≡ true
    → (Counting.pulsed_by t mode pulse).toggled ≡ (not t.output && (Counting.pulsed_by t mode pulse).timer.output)
unfolding Counting.pulsed_by timer_pulsed pick
rises t mode true h = rw h (pick_all Rises (eqb (counted_down t.count) 0) _ _ (twice (not t.output)) (neither t.output))
  where
    Rises : Counted → Type 0
    Rises c = c.toggled ≡ (not t.output && c.timer.output)

    twice : (b : Bool) → b ≡ (b && b)
    twice true = refl
    twice false = refl
rises t mode false h = neither t.output

counted_rises : (f : Front) (before : ℕ) (tick : Bool) → is_timer (mode_of f.acr) ≡ true
    → (counted_of f before tick).toggled ≡ (not f.timer.output && (counted_of f before tick).timer.output)
unfolding counted_of ticked_by edged_by
counted_rises f before tick h =
    pick_all Rises tick _ _ (rises _ (mode_of f.acr) _ h) (pick_all Rises _ _ _ (rises _ (mode_of f.acr) _ h) (neither f.timer.output))
  where
    Rises : Counted → Type 0
    Rises c = c.toggled ≡ (not f.timer.output && c.timer.output)

-- a transmitter's clock is none of its own
transmitted_none : (t : Timer) (mode : ℕ) (a b : Bool) → is_timer mode ≡ true → transmitted_by t mode a b ≡ t
unfolding Counting.pulsed_by pick
transmitted_none t mode a b h =
    let four : 4 ≤ mode = leb-true 4 mode h in
    let none : transmitter_pulses mode a b ≡ false = rw (ne_eqb mode 1 (omega arith), ne_eqb mode 2 (omega arith)) in
    ap (λ (pulse : Bool). (Counting.pulsed_by t mode pulse).timer) none

event_rises : (f : Front) (e : Event) → is_timer (mode_of f.acr) ≡ true
    → toggled_by f e ≡ (clocks e && (not f.timer.output && (front_next f e).timer.output))
event_rises f ChipReset h = refl
event_rises f (Read n) h = refl
event_rises f (Write n byte) h = refl
event_rises f Acknowledge h = refl
event_rises f (Pins x) h =
    rw (transmitted_none (counted_of (front_moved f x) f.inputs.levels false).timer (mode_of f.acr) _ _ h)
    (counted_rises (front_moved f x) f.inputs.levels false h)
event_rises f Tick h =
    rw (transmitted_none (counted_of f f.inputs.levels true).timer (mode_of f.acr) _ _ h) (counted_rises f f.inputs.levels true h)

by_output : (side : Side) (ch : Channel) (levels : ℕ) (es : List Event) (e : Event) → code_after side ch es ≡ 13 → timer_in (mode_after es) ≡ true
    → pulsed_after side ch levels es e ≡ (clocks e && (not (timer_after levels es).output && (timer_after levels (and_then es e)).output))
by_output side ch levels es e c h =
    let f : Front = front_after levels es in
    toggle side ch f e (sym (code_told side ch levels es) ∙ c)
    ∙ rw (timer_told levels es, timer_told levels (and_then es e), over_then front_then (front_at levels) es e, front_next_lem f e)
    (event_rises f e (timer_mode (mode_of f.acr) ∙ rw (acr_told levels es) at h))

-- ---- and once it is loaded ----

pulse_toggles : (t : Timer) (mode k preload : ℕ) (pulse : Bool) → timer_in mode ≡ true → preload < 65536 → Since k preload t
    → (Counting.pulsed_by t mode pulse).toggled ≡ (pulse && eqb (suc k % (2 * pulses_of preload)) 0)
pulse_toggles t mode k preload true h l s = rw (← s.loaded) (toggles.high t mode k h (rw s.loaded l) s.gone)
pulse_toggles t mode k preload false h l s = rw (leaves.still t mode)

event_toggles : (k preload levels : ℕ) (es : List Event) (e : Event) → timer_in (mode_of (front_after levels es).acr) ≡ true → preload < 65536
    → Since k preload (front_after levels es).timer
    → toggled_by (front_after levels es) e ≡ (pulse_at (mode_of (front_after levels es).acr) levels es e && eqb (suc k % (2 * pulses_of preload)) 0)
unfolding counted_of comes moved_of pick
event_toggles k preload levels es e h l s = go e
  where
    f : Front
    f = front_after levels es

    mode : ℕ
    mode = mode_of f.acr

    p : Phased (elapsed_after levels es) f
    p = phased_told levels es

    was : ℕ
    was = (elapsed_after levels es).levels

    ends : Bool
    ends = eqb (suc k % (2 * pulses_of preload)) 0

    toggled : Counted → Bool
    toggled c = c.toggled

    edged : toggled (edged_by f.timer mode) ≡ (pulse_in mode (an_edge (eqb (suc (elapsed_after levels es).edges % 16) 0)) && ends)
    edged =
        ap toggled (sources.edges f.timer mode _ p.edges)
        ∙ pulse_toggles _ mode k preload _ h l (since_phases k preload f.timer _ _ s)

    ticked : toggled (ticked_by f.timer mode) ≡ (pulse_in mode (a_tick (eqb (suc (elapsed_after levels es).ticks % 16) 0)) && ends)
    ticked =
        ap toggled (sources.ticks f.timer mode _ p.ticks)
        ∙ pulse_toggles _ mode k preload _ h l (since_phases k preload f.timer _ _ s)

    moved : (x : ℕ) (t : Bool) → rises_of was x 2 ≡ t
        → toggled (pick (rises_of was x 2) (edged_by f.timer mode) (record { timer = f.timer; toggled = false }))
        ≡ (pulse_in mode (first (comes levels es (Pins x))) && ends)
    moved x true e = rw e edged
    moved x false e = rw (e, none_comes mode)

    go : (e : Event) → toggled_by f e ≡ (pulse_at mode levels es e && ends)
    go ChipReset = rw (none_comes mode)
    go (Read n) = rw (none_comes mode)
    go (Write n byte) = rw (none_comes mode)
    go Acknowledge = rw (none_comes mode)
    go (Pins x) = rw (p.levels, timer_first (comes levels es (Pins x)) mode h) (moved x (rises_of was x 2) refl)
    go Tick = rw (timer_first (comes levels es Tick) mode h) ticked

-- the last of some events, and those before it
left_before : (fs : List Event) (e : Event) → each_of leaves_counter (and_then fs e) ≡ true → each_of leaves_counter fs ≡ true
left_before [] e l = refl
left_before (g ∷ fs) e l =
    let both = (and-eq-true_iff (leaves_counter g) _).0 l in
    (and-eq-true_iff (leaves_counter g) _).1 (both.0, left_before fs e both.1)

timer : (side : Side) (ch : Channel) (levels mode : ℕ) (es fs : List Event) (load e : Event) → code_after side ch (es ++ load ∷ fs) ≡ 13
    → Loaded mode es load (and_then fs e) → timer_in mode ≡ true
    → pulsed_after side ch levels (es ++ load ∷ fs) e
    ≡ (pulse_at mode levels (es ++ load ∷ fs) e && eqb (suc (since mode levels es load fs) % (2 * pulses_of (preload_after es))) 0)
timer side ch levels mode es fs load e c s h =
    toggle side ch f e (sym (code_told side ch levels (es ++ load ∷ fs)) ∙ c)
    ∙ rw (preload_told levels es)
    (rw chosen at
    (event_toggles (since mode levels es load fs) t.preload levels (es ++ load ∷ fs) e (ap timer_in chosen ∙ h) low
    (timer_since mode _ _ _ _ went h low)))
  where
    f : Front
    f = front_after levels (es ++ load ∷ fs)

    t : Timer
    t = (front_after levels es).timer

    low : t.preload < 65536
    low = rw (preload_told levels es) at s.preload

    went : WentBy mode levels es load fs
    went =
        loaded_told levels mode es fs load
        (record { loaded = s.loaded; preload = s.preload; left = left_before fs e s.left }) h

    chosen : mode_of f.acr ≡ mode
    chosen = went.goes.chosen

only : (side : Side) (ch : Channel) (levels : ℕ) (es : List Event) (e : Event) → clocks e ≡ false → pulsed_after side ch levels es e ≡ false
unfolding pulsed_by
only side ch levels es ChipReset h = refl
only side ch levels es (Read n) h = refl
only side ch levels es (Write n byte) h = refl
only side ch levels es Acknowledge h = refl
only side ch levels es (Pins x) h = absurd (true≢false h)
only side ch levels es Tick h = absurd (true≢false h)

pub pulses : Pulses pulsed_after
pulses = record { only = only; fixed = fixed; pin = pin; counter = counter; toggle = by_output; timer = timer }
