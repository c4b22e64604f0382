-- The waves of a list of events: by induction on the events before the time that is looked at. Assumes nothing.
use Prim.Native.Nat.{ℕ, suc}
use mathlib.Core.Path.{◌≡◌, refl, ap}
use mathlib.Core.Bool.{Bool, true, false}
use mathlib.Core.List.{List, [], ◌∷◌, ◌++◌}
use lib.ListN.{length, get_or}
use borrow.Author.Tests.{eq-eqb, ne_eqb}
use Rattle.format.specs.Pick.{pick}
use Rattle.events.specs.declared.events.Event.{Event}
use Rattle.chip_answers.specs.declared.answers.Lines.{Lines}
use Rattle.chip_device.specs.declared.device.Device.{Device}
use Rattle.chip_device.specs.Device.{device_lines}
use Rattle.chip_step.specs.Chip.{step_of}
use Rattle.chip_laws.specs.Sound.{after}
use Rattle.chip_fast.specs.Fast.{is_tick}
use Rattle.vcd_dump.specs.Waves.{waves_from}
use Rattle.vcd_laws.specs.Shows.{Accepted, ticks_in, TimeEnds}

-- a test that both ends pass is passed
either : (P : List Lines → ℕ → Type 0) (t : Bool) (l : Lines) (ls : List Lines) (n : ℕ) → P (l ∷ ls) (suc n) → P ls n
    → P (pick t (l ∷ ls) ls) (pick t (suc n) n)
unfolding pick
either P true l ls n p q = p
either P false l ls n p q = q

pub waves_at : (d : Device) (es later : List Event) (other : Lines) → Accepted d (es ++ later) → TimeEnds later
    → get_or (waves_from step_of d (es ++ later)) (ticks_in es) other ≡ device_lines (after step_of d es)
unfolding Accepted TimeEnds waves_from ticks_in after pick
waves_at d [] [] other a t = refl
waves_at d [] (e ∷ later) other a t = rw (eq-eqb (step_of d e).number 0 a.0, t)
waves_at d (e ∷ es) later other a t =
    let next = waves_at (step_of d e).state es later other a.1 t in
    rw (eq-eqb (step_of d e).number 0 a.0)
    (either (λ (ls : List Lines) (n : ℕ). get_or ls n other ≡ device_lines (after step_of (step_of d e).state es)) (is_tick e) _ _ _ next next)

-- there is one for time 0 and one for each tick
pub waves_count : (d : Device) (es : List Event) → Accepted d es → length (waves_from step_of d es) ≡ suc (ticks_in es)
unfolding Accepted waves_from ticks_in pick
waves_count d [] a = refl
waves_count d (e ∷ es) a =
    let next = waves_count (step_of d e).state es a.1 in
    rw (eq-eqb (step_of d e).number 0 a.0)
    (either (λ (ls : List Lines) (n : ℕ). length ls ≡ suc n) (is_tick e) _ _ _ (ap suc next) next)

-- what follows a refused event is not taken
pub waves_stop : (d : Device) (es : List Event) (e : Event) (later : List Event) → Accepted d es
    → ((step_of (after step_of d es) e).number ≡ 0 → ⊥) → waves_from step_of d (es ++ e ∷ later) ≡ waves_from step_of d es
unfolding Accepted waves_from after pick
waves_stop d [] e later a n = rw (ne_eqb (step_of d e).number 0 n)
waves_stop d (x ∷ es) e later a n =
    rw (eq-eqb (step_of d x).number 0 a.0, waves_stop (step_of d x).state es e later a.1 n)
