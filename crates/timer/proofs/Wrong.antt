-- The statements on the counter/timer shut wrong ones out. Each is ours but for one fault, and each is refuted by computing a few pulses:
-- `Counts` is false of five, `Toggles` of eight, `Leaves` of one, `Obeys` of seven, `Sources` of three, `AlwaysRuns` of two. Assumes nothing.
use Rattle.std.proofs.Common.{◌≡◌, ℕ, Bool, true, false, not, ◌&&◌, ◌||◌, eqb, [], ◌∷◌, sym, refl, ap, true≢false, arith}
use Rattle.format.specs.Pick.{pick}
use Rattle.dividers.specs.Divider.{divided_of, sixteenth_of}
use Rattle.timer_state.specs.declared.counting.Counted.{Counted}
use Rattle.timer_state.specs.declared.counting.Timer.{Timer}
use Rattle.timer_state.specs.Counting.{fresh_timer, with_count, with_running, with_ready, with_phases, mode_of, is_timer, counted_down, counter_pulsed, timer_pulsed, pulsed_by, with_preload}
use Rattle.timer.specs.Timer.{ticked_by, edged_by, transmitted_by, started_of, stopped_of, mode_changed}
use Rattle.timer.specs.Counts.{Pulsing, Command, after_pulses, Leaves, Counts, Toggles, Obeys}
use Rattle.timer.specs.Modes.{pulse_in}
use Rattle.timer.specs.Sources.{Ways, Sources, how_many, since, AlwaysRuns}
use Rattle.timer.specs.Sources.Happening.{tick, start}
use Rattle.timer.proofs.Examples.{loaded}

-- ---- the counter ----

-- what a pulse does, with another timer
abbrev instead : Counted → Timer → Counted
instead c t = record { timer = t; toggled = c.toggled }

-- whether a pulse took a counter to terminal
abbrev ended : Timer → ℕ → Bool → Bool
ended t mode pulse = (pulse && t.running) && (not (is_timer mode) && eqb (counted_down t.count) 0)

-- it halts there
unfoldable pub halts_at_end : Pulsing
halts_at_end t mode pulse =
    let c : Counted = pulsed_by t mode pulse in
    pick (ended t mode pulse) (instead c (with_running c.timer false)) c

pub no_halts_at_end : Counts halts_at_end started_of → ⊥
unfolding halts_at_end pulsed_by counter_pulsed started_of after_pulses pick
no_halts_at_end h =
    let z : ◌≡◌ {A = ℕ} 0 65535 = h.count (loaded 1) 0 2 refl (omega arith) in
    omega arith

-- it reloads there
unfoldable pub reloads_at_end : Pulsing
reloads_at_end t mode pulse =
    let c : Counted = pulsed_by t mode pulse in
    pick (ended t mode pulse) (instead c (with_count c.timer c.timer.preload c.timer.output)) c

pub no_reloads_at_end : Counts reloads_at_end started_of → ⊥
unfolding reloads_at_end pulsed_by counter_pulsed started_of after_pulses pick
no_reloads_at_end h =
    let z : ◌≡◌ {A = ℕ} 1 0 = h.count (loaded 1) 0 1 refl (omega arith) in
    omega arith

-- a stop clears the bit only
abbrev runs_on : Command
runs_on t mode = with_ready t false

pub no_runs_on : Obeys started_of runs_on mode_changed → ⊥
no_runs_on h = true≢false (ap (λ (t : Timer). t.running) (h.stops_counter (with_running fresh_timer true) 0 refl))

-- a counter runs until it is started
abbrev runs_unstarted : Pulsing
runs_unstarted t mode pulse = pulsed_by (with_running t (not t.running)) mode pulse

pub no_runs_unstarted : Counts runs_unstarted started_of → ⊥
unfolding pulsed_by counter_pulsed pick
no_runs_unstarted h =
    let z : ◌≡◌ {A = ℕ} 65535 0 = ap (λ (c : Counted). c.timer.count) (h.halted fresh_timer 0 refl refl) in
    omega arith

-- ---- the timer ----

-- a toggle to low sets the bit too
abbrev sets_on_low : Pulsing
sets_on_low t mode pulse =
    let c : Counted = pulsed_by t mode pulse in
    instead c (with_ready c.timer (c.timer.ready || (t.output && not c.timer.output)))

pub no_sets_on_low : Toggles sets_on_low started_of → ⊥
unfolding pulsed_by timer_pulsed started_of after_pulses pick
no_sets_on_low h = true≢false (h.ready (loaded 1) 4 1 refl (omega arith))

-- it runs, as a counter does, only where it was started and not stopped
unfoldable pub only_running : Pulsing
only_running t mode pulse = pulsed_by t mode (pulse && t.running)

-- high, and just loaded
abbrev ready : Timer
ready = with_count (loaded 1) 1 true

pub no_only_running : Toggles only_running started_of → ⊥
unfolding only_running pulsed_by after_pulses pick
no_only_running h = true≢false (h.goes ready 4 0 1 refl (omega arith) (record { count = refl; output = refl })).output

-- a stop halts it
abbrev halts_all : Command
halts_all t mode = with_running (stopped_of t mode) false

pub no_halts_all : Obeys started_of halts_all mode_changed → ⊥
unfolding stopped_of pick
no_halts_all h = true≢false (sym (ap (λ (t : Timer). t.running) (h.stops_timer (with_running fresh_timer true) 4 refl)))

-- the toggle to high is kept from code 13
abbrev hides_toggle : Pulsing
hides_toggle t mode pulse = record { timer = (pulsed_by t mode pulse).timer; toggled = false }

pub no_hides_toggle : Toggles hides_toggle started_of → ⊥
unfolding pick
no_hides_toggle h =
    true≢false (sym (h.high (with_count (loaded 1) 1 false) 4 1 refl (omega arith) (record { count = refl; output = refl })))

-- a start drives the output low
unfoldable pub starts_low : Command
starts_low t mode = pick (is_timer mode) (with_count t t.preload false) (started_of t mode)

pub no_starts_low : Toggles pulsed_by starts_low → ⊥
unfolding starts_low after_pulses pick
no_starts_low h = true≢false (sym (h.output (loaded 1) 4 0 refl (omega arith)))

-- order 4, a start and the bit: it is never set; it is set whatever the output was; it is cleared where it is not set; and it is set in a counter
-- mode
abbrev never_sets : Command
never_sets t mode = with_ready (started_of t mode) t.ready

pub no_never_sets : Toggles pulsed_by never_sets → ⊥
unfolding started_of after_pulses pick
no_never_sets h = true≢false (sym (h.ready (with_count (loaded 1) 0 false) 4 0 refl (omega arith)))

abbrev always_sets : Command
always_sets t mode = with_ready (started_of t mode) (t.ready || is_timer mode)

pub no_always_sets : Toggles pulsed_by always_sets → ⊥
unfolding started_of after_pulses pick
no_always_sets h = true≢false (h.ready (loaded 1) 4 0 refl (omega arith))

unfoldable pub sets_or_clears : Command
sets_or_clears t mode = with_ready (started_of t mode) (pick (is_timer mode) (not t.output) t.ready)

pub no_sets_or_clears : Toggles pulsed_by sets_or_clears → ⊥
unfolding sets_or_clears started_of after_pulses pick
no_sets_or_clears h = true≢false (sym (h.ready (with_ready (loaded 1) true) 4 0 refl (omega arith)))

abbrev sets_as_counter : Command
sets_as_counter t mode = with_ready (started_of t mode) (t.ready || not t.output)

pub no_sets_as_counter : Counts pulsed_by sets_as_counter → ⊥
unfolding started_of after_pulses pick
no_sets_as_counter h = true≢false (h.sets (with_count (loaded 1) 0 false) 0 0 refl (omega arith))

-- a stop keeps the bit
abbrev keeps_bit : Command
keeps_bit t mode = with_ready (stopped_of t mode) t.ready

pub no_keeps_bit : Obeys started_of keeps_bit mode_changed → ⊥
no_keeps_bit h = true≢false (ap (λ (t : Timer). t.ready) (h.stops_timer (with_ready fresh_timer true) 4 refl))

-- terminal toggles and does not reload: the first toggle comes in time, and the next 65,536 pulses later
unfoldable pub never_reloads : Pulsing
never_reloads t mode pulse =
    let c : Counted = pulsed_by t mode pulse in
    pick (pulse && is_timer mode) (instead c (with_count c.timer (counted_down t.count) c.timer.output)) c

pub no_never_reloads : Toggles never_reloads started_of → ⊥
unfolding never_reloads pulsed_by timer_pulsed started_of after_pulses pick
no_never_reloads h = true≢false (sym (h.output (loaded 1) 4 2 refl (omega arith)))

-- it counts whatever its clock does
abbrev unclocked : Pulsing
unclocked t mode pulse = pulsed_by t mode true

pub no_unclocked : Leaves unclocked → ⊥
unfolding pulsed_by timer_pulsed pick
no_unclocked h =
    let z : ◌≡◌ {A = ℕ} 65535 0 = ap (λ (c : Counted). c.timer.count) (h.still fresh_timer 4) in
    omega arith

-- a start clears the bit
abbrev clears_bit : Command
clears_bit t mode = with_ready (started_of t mode) false

pub no_clears_bit : Counts pulsed_by clears_bit → ⊥
unfolding started_of after_pulses pick
no_clears_bit h = true≢false (sym (h.sets (with_ready (loaded 1) true) 0 0 refl (omega arith)))

-- a stop loses the preload
abbrev loses_preload : Command
loses_preload t mode = with_preload (stopped_of t mode) 0

pub no_loses_preload : Obeys started_of loses_preload mode_changed → ⊥
unfolding stopped_of pick
no_loses_preload h =
    let z : ◌≡◌ {A = ℕ} 0 1 = ap (λ (t : Timer). t.preload) (h.stops_counter (loaded 1) 0 refl) in
    omega arith

-- a change of mode does nothing
abbrev changes_nothing : Timer → ℕ → ℕ → Timer
changes_nothing t before after = t

pub no_changes_nothing : Obeys started_of stopped_of changes_nothing → ⊥
no_changes_nothing h = true≢false (sym (ap (λ (t : Timer). t.running) (h.changes fresh_timer 0 64 refl)))

-- a change of mode that raises the output sets the bit, as a start does
abbrev change_sets : Timer → ℕ → ℕ → Timer
change_sets t before after = with_ready (mode_changed t before after) (t.ready || not t.output)

pub no_change_sets : Obeys started_of stopped_of change_sets → ⊥
unfolding mode_changed pick
no_change_sets h = true≢false (ap (λ (t : Timer). t.ready) (h.changes (with_count fresh_timer 0 false) 0 64 refl))

-- every ACR write reloads
abbrev reloads_always : Timer → ℕ → ℕ → Timer
reloads_always t before after = with_running (with_count t t.preload true) (is_timer (mode_of after))

pub no_reloads_always : Obeys started_of stopped_of reloads_always → ⊥
no_reloads_always h =
    let z : ◌≡◌ {A = ℕ} 1 0 = ap (λ (t : Timer). t.count) (h.unchanged (loaded 1) 0 1 refl) in
    omega arith

-- ---- what pulses it ----

-- ours with another way to take a tick
abbrev ticking : (Timer → ℕ → Counted) → Ways
ticking f = record { tick = f; edge = edged_by; bits = transmitted_by; start = started_of; stop = stopped_of; change = mode_changed }

-- the phase of ticks/16 runs in its own modes only
unfoldable pub runs_in_its_modes : Timer → ℕ → Counted
runs_in_its_modes t mode =
    pick (eqb mode 3 || eqb mode 7) (ticked_by t mode) (record { timer = t; toggled = false })

pub no_runs_in_its_modes : AlwaysRuns (ticking runs_in_its_modes) → ⊥
unfolding runs_in_its_modes how_many since pick
no_runs_in_its_modes h =
    let z : ◌≡◌ {A = ℕ} 0 1 = h.ticks (tick ∷ []) in
    omega arith

-- every tick for ticks/16
abbrev every_tick : Timer → ℕ → Counted
every_tick t mode = pulsed_by (ticked_by t mode).timer mode (eqb mode 7)

pub no_every_tick : Sources (ticking every_tick) pulsed_by → ⊥
unfolding ticked_by divided_of pulsed_by timer_pulsed pulse_in pick
no_every_tick h =
    let z : ◌≡◌ {A = ℕ} 65535 0 = ap (λ (c : Counted). c.timer.count) (h.ticks fresh_timer 7 0 refl) in
    omega arith

-- every edge of IP2 for IP2/16
abbrev every_edge : Ways
every_edge =
    record {
      tick = ticked_by;
      edge = λ t mode. pulsed_by (edged_by t mode).timer mode (eqb mode 5);
      bits = transmitted_by;
      start = started_of;
      stop = stopped_of;
      change = mode_changed;
    }

pub no_every_edge : Sources every_edge pulsed_by → ⊥
unfolding edged_by sixteenth_of pulsed_by timer_pulsed pulse_in pick
no_every_edge h =
    let z : ◌≡◌ {A = ℕ} 65535 0 = ap (λ (c : Counted). c.timer.count) (h.edges fresh_timer 5 0 refl) in
    omega arith

-- B's 1X clock for A's
abbrev crossed : Ways
crossed =
    record {
      tick = ticked_by;
      edge = edged_by;
      bits = λ t mode a b. transmitted_by t mode b a;
      start = started_of;
      stop = stopped_of;
      change = mode_changed;
    }

pub no_crossed : Sources crossed pulsed_by → ⊥
unfolding pulsed_by counter_pulsed pulse_in pick
no_crossed h =
    let z : ◌≡◌ {A = ℕ} 0 65535 = ap (λ (t : Timer). t.count) (h.bits (with_running fresh_timer true) 1 true false) in
    omega arith

-- a start restarts the phase
abbrev restarts_phase : Ways
restarts_phase =
    record {
      tick = ticked_by;
      edge = edged_by;
      bits = transmitted_by;
      start = λ t mode. with_phases (started_of t mode) (record { 0 = 0 }) t.edges;
      stop = stopped_of;
      change = mode_changed;
    }

pub no_restarts_phase : AlwaysRuns restarts_phase → ⊥
unfolding ticked_by divided_of pulsed_by how_many since pick
no_restarts_phase h =
    let z : ◌≡◌ {A = ℕ} 0 1 = h.ticks (start ∷ tick ∷ []) in
    omega arith
