-- Wrong dumps, by the lines that they write: each is shown not to tell what it should. Where a device is needed it is the fresh one, and OP0 is set
-- low by a write of 1 to register 14. Assumes nothing.
use Prim.Native.Nat.{ℕ, suc, ◌+◌, ◌-◌, ◌*◌, ◌/◌}
use mathlib.Core.Path.{◌≡◌, refl, sym, ◌∙◌, ap}
use mathlib.Core.Bool.{Bool, true, false, true≢false, false≢true}
use mathlib.Core.List.{List, [], ◌∷◌, ◌++◌, map}
use native.Mathlib.Omega.{arith}
use lib.ListN.{length, take, replicate, length-append}
use Rattle.format.specs.Pick.{pick}
use Rattle.format.specs.Digits.{bits_of}
use Rattle.events.specs.declared.events.Event.{Event}
use Rattle.events.specs.declared.events.Event.TheVariants.{Read, Write, Tick}
use Rattle.chip_answers.specs.declared.answers.Lines.{Lines}
use Rattle.chip_device.specs.declared.device.Device.{Device}
use Rattle.chip_device.specs.Device.{fresh_device, device_lines}
use Rattle.chip_step.specs.Chip.{step_of}
use Rattle.chip_laws.specs.Sound.{after}
use Rattle.chip_laws.proofs.Computing.{computing}
use Rattle.chip_fast.specs.Fast.{is_tick}
use Rattle.vcd_text.specs.Time.{time_of}
use Rattle.vcd_text.specs.Lines.{Line, level_at, times_of, RisesFrom, values_on}
use Rattle.vcd_text.specs.Lines.Line.{Time, Value}
use Rattle.vcd_dump.specs.Waves.{values_of, waves_from}
use Rattle.vcd_dump.specs.Dump.{events_text}
use Rattle.vcd_laws.specs.Shows.{ChangesFrom, Changes, Accepted, ticks_in, TimeEnds, OnlyChanges, CodesFrom}
use Rattle.vcd_laws.specs.Shows.{Tells, Shows}
use Rattle.vcd_laws.proofs.Lines.{changes_of, timed, lines_of}
use Rattle.vcd_laws.proofs.Shows.{dump_lines, shows}

-- the waves of the chip
abbrev waves : Device → List Event → List (List Bool)
waves d es = map values_of (waves_from step_of d es)

-- ---- the values ----

-- "IRQ as line level (asserted is 0)": this one writes it as the answer has it
abbrev as_asserted : Lines → List Bool
as_asserted l = l.txda ∷ l.txdb ∷ l.irq ∷ bits_of 8 l.op

no_irq_as_asserted : Tells (λ d es. lines_of 0 [] (map as_asserted (waves_from step_of d es))) → ⊥
unfolding computing waves_from lines_of changes_of timed level_at bits_of Accepted TimeEnds ticks_in pick
no_irq_as_asserted h = false≢true (h.show fresh_device [] [] tt tt 2 (omega arith) true)

-- no values at time 0, but for what changes: a reader does not know them
no_missing_at_zero : Tells (λ d es. lines_of 0 (replicate 11 true) (waves d es)) → ⊥
unfolding computing waves_from lines_of changes_of timed level_at bits_of Accepted TimeEnds ticks_in pick
no_missing_at_zero h = false≢true (h.show fresh_device [] [] tt tt 0 (omega arith) false)

-- ---- the times ----

-- events before the first tick at another time: time 0 shows the given state
abbrev given_first : Device → List Event → List Line
given_first d es = lines_of 0 [] (values_of (device_lines d) ∷ waves d es)

no_given_state_at_zero : Tells given_first → ⊥
unfolding computing waves_from lines_of changes_of timed level_at bits_of Accepted TimeEnds ticks_in is_tick after pick
no_given_state_at_zero h = true≢false (h.show fresh_device (Write 14 1 ∷ []) [] (refl, tt) tt 3 (omega arith) true)

-- the lines of a dump whose ticks stand at other times
unfoldable retimed : (ℕ → ℕ) → ℕ → List Bool → List (List Bool) → List Line
retimed at n before [] = []
retimed at n before (vs ∷ later) = stanza (changes_of 33 before vs) ++ retimed at (suc n) vs later
  where
    stanza : List Line → List Line
    stanza [] = []
    stanza (l ∷ ls) = Time (at n) ∷ l ∷ ls

-- "the whole part": these are rounded up
no_rounded_up : Tells (λ d es. retimed (λ n. (n * 625000 + 2303) / 2304) 0 [] (waves d es)) → ⊥
unfolding computing waves_from retimed changes_of level_at bits_of Accepted TimeEnds ticks_in is_tick after pick
no_rounded_up h = true≢false (h.show fresh_device (Tick ∷ Write 14 1 ∷ []) [] (refl, (refl, tt)) tt 3 (omega arith) true)

-- "Tick n, from 1": this one counts from 0
no_first_tick_at_zero : Tells (λ d es. retimed (λ n. time_of (n - 1)) 0 [] (waves d es)) → ⊥
unfolding computing waves_from retimed changes_of times_of RisesFrom bits_of is_tick after pick
no_first_tick_at_zero h = omega (arith, (h.rise fresh_device (Tick ∷ Write 14 1 ∷ [])).1.0)

-- "then only times with changes": this one writes every time
unfoldable every_time : ℕ → List Bool → List (List Bool) → List Line
every_time n before [] = []
every_time n before (vs ∷ later) = Time (time_of n) ∷ changes_of 33 before vs ++ every_time (suc n) vs later

no_time_without_change : Tells (λ d es. every_time 0 [] (waves d es)) → ⊥
unfolding computing waves_from every_time changes_of OnlyChanges bits_of is_tick after pick
no_time_without_change h = h.only fresh_device (Tick ∷ [])

-- a last time that marks the end
no_end_marked : Tells (λ d es. dump_lines d es ++ Time (time_of (ticks_in es)) ∷ []) → ⊥
unfolding computing waves_from lines_of changes_of timed OnlyChanges bits_of ticks_in is_tick after pick
no_end_marked h = h.only fresh_device (Tick ∷ [])

-- ---- the changes ----

-- "written where they differ from those written before": this one writes all values of a time that has a change
unfoldable whole_times : ℕ → List Bool → List (List Bool) → List Line
whole_times n before [] = []
whole_times n before (vs ∷ later) = whole (changes_of 33 before vs) ++ whole_times (suc n) vs later
  where
    whole : List Line → List Line
    whole [] = []
    whole (l ∷ ls) = Time (time_of n) ∷ changes_of 33 [] vs

no_unchanged_written : Tells (λ d es. whole_times 0 [] (waves d es)) → ⊥
unfolding computing waves_from whole_times changes_of values_on Changes ChangesFrom bits_of is_tick after pick
no_unchanged_written h = false≢true (h.change fresh_device (Tick ∷ Write 14 1 ∷ []) 33).0

-- ---- the events ----

-- "It stops before a refused event": this one passes it over and goes on
unfoldable passing_over : Device → List Event → List Lines
passing_over d [] = device_lines d ∷ []
passing_over d (e ∷ es) =
    let later : List Lines = passing_over (step_of d e).state es in
    pick (is_tick e) (device_lines d ∷ later) later

no_refused_passed_over : Tells (λ d es. lines_of 0 [] (map values_of (passing_over d es))) → ⊥
unfolding computing passing_over lines_of changes_of timed bits_of Accepted is_tick after pick
no_refused_passed_over h =
    omega (arith, ap length (h.stop fresh_device [] (Read 2) (Tick ∷ Write 14 1 ∷ []) tt (λ (z : ◌≡◌ {A = ℕ} 3 0). omega arith)))

-- a constant, nothing at all, and no more than the first event
no_constant : (ls : List Line) → Tells (λ d es. ls) → ⊥
unfolding computing Accepted TimeEnds ticks_in is_tick after bits_of pick
no_constant ls h =
    let before = h.show fresh_device [] [] tt tt 3 (omega arith) true in
    let later = h.show fresh_device (Write 14 1 ∷ []) [] (refl, tt) tt 3 (omega arith) true in
    true≢false (sym before ∙ later)

no_first_event_alone : Tells (λ d es. dump_lines d (take 1 es)) → ⊥
unfolding computing waves_from lines_of changes_of timed level_at bits_of Accepted TimeEnds ticks_in is_tick after pick
no_first_event_alone h = true≢false (h.show fresh_device (Tick ∷ Write 14 1 ∷ []) [] (refl, (refl, tt)) tt 3 (omega arith) true)

-- ---- the layout ----

-- "in the same order": this one writes the values of a time from the last code to the first
unfoldable backwards : List Line → List Line
backwards [] = []
backwards (Time t ∷ ls) = Time t ∷ backwards ls
backwards (Value c v ∷ ls) = backwards ls ++ Value c v ∷ []

no_last_code_first : Tells (λ d es. backwards (dump_lines d es)) → ⊥
unfolding computing waves_from lines_of changes_of timed backwards CodesFrom bits_of is_tick after pick
no_last_code_first h = omega (arith, (h.order fresh_device []).1.0)

-- every line is one of the layout's: this one ends with a byte more
no_end_marked_by_nul : Shows (λ d es. events_text d es ++ 0 ∷ []) dump_lines → ⊥
no_end_marked_by_nul h =
    let right = ap length (shows.layout fresh_device []) in
    let wrong : length (events_text fresh_device []) + 1 ≡ length (events_text fresh_device []) = sym (length-append (events_text fresh_device []) (0 ∷ [])) ∙ ap length (h.layout fresh_device []) ∙ sym right in
    omega arith
