-- Document 01's eleven cases and order 2's, by computing the definitions: some cases at a time, for a check has its limits, and then the table. Assumes nothing.
use mathlib.Core.Path.{◌≡◌, refl, sym}
use mathlib.Core.Bool.{Bool, true, false, ◌&&◌, true≢false}
use mathlib.Core.List.{List, [], ◌∷◌, ◌++◌}
use Rattle.chip_step.specs.Chip.{step_of}
use Rattle.demands.specs.Chip.{chip_of}
use Rattle.demands.specs.Demand1.{request_frame}
use Rattle.demands.specs.Cases.{Row, holds, all_hold, heard, pulsed, case1, case2, case3, case4, case4sent, case5, case6, case7, case7looped, case8, case9, case10, case11, case11low, Cases}
use Rattle.demands.proofs.Computing.{computing}

-- a case of ours
abbrev Holds : List Row → Type 0
Holds rows = all_hold (chip_of step_of) request_frame rows ≡ true

first_then : (t : Bool) {a b : Bool} → (t && a) ≡ true → (a ≡ true → b ≡ true) → (t && b) ≡ true
first_then true h k = k h
first_then false h k = absurd (true≢false (sym h))

both : (a b : List Row) → Holds a → Holds b → Holds (a ++ b)
unfolding all_hold
both [] b h k = k
both (x ∷ a) b h k = first_then (holds (chip_of step_of) request_frame x) h (λ l. both a b l k)

first_cases : Holds (case1 ++ case2 ++ case3 ++ case4)
unfolding computing holds all_hold heard
first_cases = refl

fourth_sent : Holds case4sent
unfolding computing holds all_hold heard
fourth_sent = refl

fifth_and_sixth : Holds (case5 ++ case6)
unfolding computing holds all_hold heard
fifth_and_sixth = refl

seventh : Holds case7
unfolding computing holds all_hold heard
seventh = refl

seventh_looped : Holds case7looped
unfolding computing holds all_hold pulsed
seventh_looped = refl

last_cases : Holds (case8 ++ case9 ++ case10 ++ case11 ++ case11low)
unfolding computing holds all_hold heard
last_cases = refl

pub eleven_cases : Cases (chip_of step_of) request_frame
eleven_cases = both _ _ (both _ _ (both _ _ (both _ _ (both _ _ first_cases fourth_sent) fifth_and_sixth) seventh) seventh_looped) last_cases
