-- Wrong answers, each shut out by a definition: a routine that gave it would not meet its contract. Assumes nothing.
use Prim.Native.Nat.{ℕ, ◌+◌, ◌-◌}
use mathlib.Core.Path.{◌≡◌, ap}
use mathlib.Core.Bool.{Bool, true, not, true≢false, false≢true}
use mathlib.Core.List.{List}
use native.Mathlib.Omega.{arith}
use lib.Dec.{eqb, ltb}
use lib.ListN.{get_or}
use Rattle.format.specs.declared.counts.Pulses.{Pulses}
use Rattle.format.specs.declared.counts.Ticks.{Ticks}
use Rattle.format.specs.Pick.{pick}
use Rattle.dividers.specs.Divider.{divided_of, sixteenth_of, room_of}
use Rattle.dividers.specs.Rates.{period_of}
use Rattle.dividers.proofs.Laws.Rates.{Periods}

-- "the next pulse coming a full period later"
no_tick_early :
    ((phase period : Ticks) → not (ltb (phase.0 + 1) (period.0 - 1)) ≡ (divided_of phase period).pulse)
    → ⊥
unfolding divided_of pick
no_tick_early h = true≢false (h (record { 0 = 1 }) (record { 0 = 3 }))

-- "every 16th"
no_every17th : ((phase : Pulses) → not (ltb phase.0 16) ≡ (sixteenth_of phase).pulse) → ⊥
unfolding sixteenth_of pick
no_every17th h = false≢true (h (record { 0 = 15 }))

-- code 12, "6": from phase 0 five ticks pass, and the sixth is the pulse
no_room_of_six : 6 ≡ (room_of (record { 0 = 0 }) (record { 0 = 6 })).0 → ⊥
unfolding room_of
no_room_of_six = omega arith

-- room where the phase is not below the period
no_room_past_the_period : ((phase period : Ticks) → 1 ≡ (room_of phase period).0) → ⊥
unfolding room_of
no_room_past_the_period h = omega (arith, h (record { 0 = 6 }) (record { 0 = 6 }))

-- "ACR bit 7 = 1: 3072, 2096, 1712, 1536, ..": the periods of codes 0 and 3 exchanged
no_second_set0_as3 : 1536 ≡ (period_of true 0).0 → ⊥
unfolding period_of pick
no_second_set0_as3 = omega arith

no_second_set3_as0 : 3072 ≡ (period_of true 3).0 → ⊥
unfolding period_of pick
no_second_set3_as0 = omega arith

-- ---- wrong tables, each shut out by document 01's numbers ----
-- Made in the definition and in the code together, they would still be refused.

abbrev periods_of : Bool → ℕ → ℕ
periods_of second code = (period_of second code).0

-- "ACR bit 7 = 0: 4608, 2096, 1712, ..": two periods exchanged
abbrev one_for_two : ℕ → ℕ
one_for_two code = pick (eqb code 1) 2 (pick (eqb code 2) 1 code)

no_periods_exchanged : Periods (λ (second : Bool) (code : ℕ). periods_of second (one_for_two code)) → ⊥
unfolding period_of pick
no_periods_exchanged h = omega (arith, ap (λ (l : List ℕ). get_or l 1 0) h.first)

-- the two sets exchanged
no_sets_exchanged : Periods (λ (second : Bool) (code : ℕ). periods_of (not second) code) → ⊥
unfolding period_of pick
no_sets_exchanged h = omega (arith, ap (λ (l : List ℕ). get_or l 0 0) h.first)
