-- Cases 10 and 11 of document 01 and order 4's, the eight modes with each clock that 01 names, and one case of each change of mode: each is computed. Assumes
-- nothing.
use Rattle.std.proofs.Common.{◌≡◌, ℕ, zero, suc, Bool, true, false, List, [], ◌∷◌, refl}
use Rattle.format.specs.Pick.{pick}
use Rattle.dividers.specs.Divider.{divided_of, sixteenth_of}
use Rattle.timer_state.specs.declared.counting.Timer.{Timer}
use Rattle.timer_state.specs.Counting.{counter_pulsed, timer_pulsed, pulsed_by}
use Rattle.timer.specs.Timer.{ticked_by, edged_by, transmitted_by, started_of, stopped_of, mode_changed}

-- as after a chip reset, but with a preload
abbrev pub loaded : ℕ → Timer
loaded n = record { preload = n; count = 0; running = false; output = true; ready = false; ticks = record { 0 = 0 }; edges = record { 0 = 0 } }

abbrev started : ℕ → ℕ → Timer
started mode n = started_of (loaded n) mode

-- after so many steps
unfoldable many : (Timer → Timer) → ℕ → Timer → Timer
many step zero t = t
many step (suc n) t = step (many step n t)

abbrev ticked : ℕ → ℕ → Timer → Timer
ticked mode = many (λ (t : Timer). (ticked_by t mode).timer)

abbrev edged : ℕ → ℕ → Timer → Timer
edged mode = many (λ (t : Timer). (edged_by t mode).timer)

abbrev sent : ℕ → Bool → Bool → ℕ → Timer → Timer
sent mode a b = many (λ (t : Timer). transmitted_by t mode a b)

-- ---- the eight modes ----

-- the count after 47 edges of IP2, 48 edges, 47 ticks, 48 ticks, 48 pulses of A's 1X transmitter clock and 48 of B's, each after a start with
-- preload 100
abbrev counts : ℕ → List ℕ
counts mode =
    let t : Timer = started mode 100 in
    (edged mode 47 t).count ∷ (edged mode 48 t).count ∷ (ticked mode 47 t).count ∷ (ticked mode 48 t).count
    ∷ (sent mode true false 48 t).count ∷ (sent mode false true 48 t).count ∷ []

-- "ACR 6-4: 0-3 counter on rising IP2, TxCA 1X, TxCB 1X, ticks/16; 4-7 timer on rising IP2, IP2/16, ticks, ticks/16. Both /16 phases always run,
-- from 0 at a chip reset."
record EightClocks : Type 0 where
  mode_0 : counts 0 ≡ 53 ∷ 52 ∷ 100 ∷ 100 ∷ 100 ∷ 100 ∷ []
  mode_1 : counts 1 ≡ 100 ∷ 100 ∷ 100 ∷ 100 ∷ 52 ∷ 100 ∷ []
  mode_2 : counts 2 ≡ 100 ∷ 100 ∷ 100 ∷ 100 ∷ 100 ∷ 52 ∷ []
  mode_3 : counts 3 ≡ 100 ∷ 100 ∷ 98 ∷ 97 ∷ 100 ∷ 100 ∷ []
  mode_4 : counts 4 ≡ 53 ∷ 52 ∷ 100 ∷ 100 ∷ 100 ∷ 100 ∷ []
  mode_5 : counts 5 ≡ 98 ∷ 97 ∷ 100 ∷ 100 ∷ 100 ∷ 100 ∷ []
  mode_6 : counts 6 ≡ 100 ∷ 100 ∷ 53 ∷ 52 ∷ 100 ∷ 100 ∷ []
  mode_7 : counts 7 ≡ 100 ∷ 100 ∷ 98 ∷ 97 ∷ 100 ∷ 100 ∷ []

eight_clocks : EightClocks
unfolding many ticked_by edged_by pulsed_by counter_pulsed timer_pulsed started_of divided_of sixteenth_of pick
eight_clocks =
    record {
      mode_0 = refl;
      mode_1 = refl;
      mode_2 = refl;
      mode_3 = refl;
      mode_4 = refl;
      mode_5 = refl;
      mode_6 = refl;
      mode_7 = refl;
    }

-- its count, ISR bit 3 and its output
abbrev seen : Timer → ℕ × Bool × Bool
seen t = (t.count, t.ready, t.output)

-- "0-3 counter .. 4-7 timer", each three pulses of its clock after a start with preload 2: a counter has gone on from its end, and its bit is set; a
-- timer has reloaded and is low
record EightEnds : Type 0 where
  mode_0 : seen (edged 0 3 (started 0 2)) ≡ (65535, true, true)
  mode_1 : seen (sent 1 true false 3 (started 1 2)) ≡ (65535, true, true)
  mode_2 : seen (sent 2 false true 3 (started 2 2)) ≡ (65535, true, true)
  mode_3 : seen (ticked 3 48 (started 3 2)) ≡ (65535, true, true)
  mode_4 : seen (edged 4 3 (started 4 2)) ≡ (1, false, false)
  mode_5 : seen (edged 5 48 (started 5 2)) ≡ (1, false, false)
  mode_6 : seen (ticked 6 3 (started 6 2)) ≡ (1, false, false)
  mode_7 : seen (ticked 7 48 (started 7 2)) ≡ (1, false, false)

eight_ends : EightEnds
unfolding many ticked_by edged_by pulsed_by counter_pulsed timer_pulsed started_of divided_of sixteenth_of pick
eight_ends =
    record {
      mode_0 = refl;
      mode_1 = refl;
      mode_2 = refl;
      mode_3 = refl;
      mode_4 = refl;
      mode_5 = refl;
      mode_6 = refl;
      mode_7 = refl;
    }

-- ---- cases of document 01, and more ----

-- "Counter on ticks/16, phase 0, preload 3: ISR bit 3 after 48 ticks, not 47."
case_10 : ((ticked 3 47 (started 3 3)).ready ≡ false) × ((ticked 3 48 (started 3 3)).ready ≡ true)
unfolding many ticked_by pulsed_by counter_pulsed started_of divided_of pick
case_10 = (refl, refl)

-- "Timer on ticks, preload 2, start: ISR bit 3 after 4 ticks, not 3."
case_11 : ((ticked 6 3 (started 6 2)).ready ≡ false) × ((ticked 6 4 (started 6 2)).ready ≡ true)
unfolding many ticked_by pulsed_by timer_pulsed started_of divided_of pick
case_11 = (refl, refl)

-- order 4: "as case 11 but three ticks, clear the bit with stop, then start: the bit is set.": not before that start
case_11_low :
    let t : Timer = stopped_of (ticked 6 3 (started 6 2)) 6 in (t.ready ≡ false) × (seen (started_of t 6) ≡ (2, true, true))
unfolding many ticked_by pulsed_by timer_pulsed started_of stopped_of divided_of pick
case_11_low = (refl, refl)

-- a counter on the 1X transmitter clock of A, preload 2: two pulses of A are its end, and those of B are none of its
transmitter_of_a :
    ((transmitted_by (transmitted_by (started 1 2) 1 true false) 1 true false).ready ≡ true)
    × ((transmitted_by (transmitted_by (started 1 2) 1 true false) 1 false true).ready ≡ false)
unfolding pulsed_by counter_pulsed started_of pick
transmitter_of_a = (refl, refl)

-- a timer on IP2/16, preload 3: low after 48 edges, not 47, and high again after 96
edges_by_16 : ((edged 5 47 (started 5 3)).output ≡ true) × ((edged 5 48 (started 5 3)).output ≡ false) × ((edged 5 96 (started 5 3)).output ≡ true)
unfolding many edged_by pulsed_by timer_pulsed started_of sixteenth_of pick
edges_by_16 = (refl, refl, refl)

-- ACR 96 to 48, from timer on ticks to counter on ticks/16: reloads, drives the output high, and halts
timer_to_counter : (t : Timer)
    → ((mode_changed t 96 48).running ≡ false) × ((mode_changed t 96 48).count ≡ t.preload) × ((mode_changed t 96 48).output ≡ true)
unfolding mode_changed pick
timer_to_counter t = (refl, refl, refl)

-- ACR 96 to 239 leaves bits 6-4 alone, and the timer as it is
mode_alone : (t : Timer) → mode_changed t 96 239 ≡ t
unfolding mode_changed pick
mode_alone t = refl
