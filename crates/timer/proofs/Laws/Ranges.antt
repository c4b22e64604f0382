-- All that can happen to a counter/timer keeps its two phases in their ranges, from any that are, reached or not: each is a divider's next
-- phase, or is left alone. Assumes nothing.
use Rattle.std.proofs.Common.{◌≡◌, ℕ, ◌≤◌, Bool, true, eqb, leb, refl, arith, le-leb, leb-true}
use mathlib.Core.Bool.{and-eq-true_iff}
use Rattle.format.proofs.Laws.Pick.{pick_all}
use Rattle.dividers.proofs.Laws.Ranges.{divided_most, sixteenth_most}
use Rattle.timer_state.specs.declared.counting.Counted.{Counted}
use Rattle.timer_state.specs.declared.counting.Timer.{Timer}
use Rattle.timer_state.specs.Counting.{fresh_timer, mode_of, is_timer, counted_down, counter_pulsed, timer_pulsed, pulsed_by}
use Rattle.timer.specs.Timer.{ticked_by, edged_by, transmitted_by, started_of, stopped_of, mode_changed}
use Rattle.timer.specs.Sound.{timer_in_range, KeepsTimer}

-- of the ticks, and of the edges
abbrev Inside : Timer → Type 0
Inside t = (t.ticks.0 ≤ 15) × (t.edges.0 ≤ 15)

timer_told : (t : Timer) → timer_in_range t ≡ true → Inside t
timer_told t e = let a = (and-eq-true_iff (leb t.ticks.0 15) _).0 e in (leb-true _ _ a.0, leb-true _ _ a.1)

timer_shown : (t : Timer) → Inside t → timer_in_range t ≡ true
timer_shown t h = rw (le-leb _ _ h.0, le-leb _ _ h.1)

-- a pulse moves neither
pulsed_inside : (t : Timer) (mode : ℕ) (pulse : Bool) → Inside t → Inside (pulsed_by t mode pulse).timer
unfolding pulsed_by timer_pulsed counter_pulsed
pulsed_inside t mode pulse h =
    pick_all Next pulse _ _
    (pick_all Next (is_timer mode) _ _ (pick_all Next (eqb (counted_down t.count) 0) _ _ h h) (pick_all Inside t.running _ _ h h))
    h
  where
    Next : Counted → Type 0
    Next c = Inside c.timer

pub ticked_kept : (mode : ℕ) → KeepsTimer (λ (t : Timer). (ticked_by t mode).timer)
unfolding ticked_by
ticked_kept mode t e =
    timer_shown (ticked_by t mode).timer
    (pulsed_inside _ mode _ (divided_most t.ticks (record { 0 = 16 }) 15 (omega arith), (timer_told t e).1))

pub edged_kept : (mode : ℕ) → KeepsTimer (λ (t : Timer). (edged_by t mode).timer)
unfolding edged_by
edged_kept mode t e = timer_shown (edged_by t mode).timer (pulsed_inside _ mode _ ((timer_told t e).0, sixteenth_most t.edges))

pub transmitted_kept : (mode : ℕ) (a b : Bool) → KeepsTimer (λ (t : Timer). transmitted_by t mode a b)
transmitted_kept mode a b t e = timer_shown (transmitted_by t mode a b) (pulsed_inside t mode _ (timer_told t e))

pub started_kept : (mode : ℕ) → KeepsTimer (λ (t : Timer). started_of t mode)
unfolding started_of
started_kept mode t e = timer_shown (started_of t mode) (pick_all Inside (is_timer mode) _ _ (timer_told t e) (timer_told t e))

pub stopped_kept : (mode : ℕ) → KeepsTimer (λ (t : Timer). stopped_of t mode)
unfolding stopped_of
stopped_kept mode t e = timer_shown (stopped_of t mode) (pick_all Inside (is_timer mode) _ _ (timer_told t e) (timer_told t e))

pub mode_changed_kept : (before after : ℕ) → KeepsTimer (λ (t : Timer). mode_changed t before after)
unfolding mode_changed
mode_changed_kept before after t e =
    timer_shown (mode_changed t before after)
    (pick_all Inside (eqb (mode_of before) (mode_of after)) _ _ (timer_told t e) (timer_told t e))

pub fresh_in_range : timer_in_range fresh_timer ≡ true
fresh_in_range = refl
