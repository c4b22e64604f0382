-- Lists of a transmitter's inputs, one after another; and TxD at the pulses of a started character, which has the levels of its frame one after
-- another because it has each of them. Assumes nothing.
use Prim.Native.Nat.{ℕ, suc, ◌+◌, ◌≤◌}
use mathlib.Core.Path.{◌≡◌, refl, ap}
use mathlib.Core.Bool.{Bool, true, false, and-eq-true_iff}
use mathlib.Core.List.{List, [], ◌∷◌, ◌++◌}
use native.Mathlib.Omega.{arith}
use lib.ListN.{length, get_or, take, drop}
use lib.Seq.{drop-cons}
use Rattle.format.specs.Pick.{pick}
use Rattle.transmitter_state.specs.declared.sending.Standing.{Standing}
use Rattle.transmitter_state.specs.declared.state.Transmitter.{Transmitter}
use Rattle.transmitter.specs.declared.transmitter.Input.{Input}
use Rattle.transmitter.specs.declared.transmitter.Input.TheVariants.{Pulse}
use Rattle.transmitter.specs.Transmitter.{after_input}
use Rattle.transmitter.specs.Frames.{after, is_pulse, pulses_in, line, keeps, no_reset, Startable, frame_at}
use Rattle.transmitter.proofs.Frames.{sends}

-- ---- lists of inputs ----

pub after_append : (t : Transmitter) (xs ys : List Input) → after after_input t (xs ++ ys) ≡ after after_input (after after_input t xs) ys
unfolding after
after_append t [] ys = refl
after_append t (x ∷ xs) ys = after_append (after_input t x) xs ys

after_then : (t : Transmitter) (xs : List Input) (x : Input) → after after_input t (xs ++ x ∷ []) ≡ after_input (after after_input t xs) x
unfolding after
after_then t xs x = after_append t xs (x ∷ [])

pub pulses_append : (xs ys : List Input) → pulses_in (xs ++ ys) ≡ pulses_in xs + pulses_in ys
unfolding pulses_in pick
pulses_append [] ys = omega arith
pulses_append (x ∷ xs) ys = go (is_pulse x) (pulses_append xs ys)
  where
    go : (b : Bool) → pulses_in (xs ++ ys) ≡ pulses_in xs + pulses_in ys
        → pick b (suc (pulses_in (xs ++ ys))) (pulses_in (xs ++ ys)) ≡ pick b (suc (pulses_in xs)) (pulses_in xs) + pulses_in ys
    go true h = omega arith
    go false h = h

pub line_append : (t : Transmitter) (xs ys : List Input)
    → line after_input t (xs ++ ys) ≡ line after_input t xs ++ line after_input (after after_input t xs) ys
unfolding line after pick
line_append t [] ys = refl
line_append t (x ∷ xs) ys = go (is_pulse x) (line_append (after_input t x) xs ys)
  where
    u : Transmitter
    u = after_input t x

    go : (b : Bool) → line after_input u (xs ++ ys) ≡ line after_input u xs ++ line after_input (after after_input u xs) ys
        → pick b (u.txd ∷ line after_input u (xs ++ ys)) (line after_input u (xs ++ ys))
        ≡ pick b (u.txd ∷ line after_input u xs) (line after_input u xs) ++ line after_input (after after_input u xs) ys
    go true h = rw h
    go false h = h

pub keeps_append : (xs ys : List Input) → no_reset xs ≡ true → no_reset ys ≡ true → no_reset (xs ++ ys) ≡ true
keeps_append [] ys h k = k
keeps_append (x ∷ xs) ys h k =
    let both = (and-eq-true_iff (keeps x) (no_reset xs)).0 h in
    (and-eq-true_iff (keeps x) (no_reset (xs ++ ys))).1 (both.0, keeps_append xs ys both.1 k)

-- as many levels as pulses
pub line_length : (t : Transmitter) (xs : List Input) → length (line after_input t xs) ≡ pulses_in xs
unfolding line pulses_in pick
line_length t [] = refl
line_length t (x ∷ xs) = go (is_pulse x) (line_length (after_input t x) xs)
  where
    u : Transmitter
    u = after_input t x

    go : (b : Bool) → length (line after_input u xs) ≡ pulses_in xs
        → length (pick b (u.txd ∷ line after_input u xs) (line after_input u xs)) ≡ pick b (suc (pulses_in xs)) (pulses_in xs)
    go true h = ap suc h
    go false h = h

-- ---- a character's levels ----

-- the next input: its level, if it is a pulse, and then the rest of them
line_next : (u : Transmitter) (x : Input) (rest : List Input) (levels : List Bool) (i j : ℕ) → j ≡ i + pulses_in (x ∷ [])
    → i + pulses_in (x ∷ rest) ≤ length levels
    → (is_pulse x ≡ true → (after_input u x).txd ≡ get_or levels i true)
    → line after_input (after_input u x) rest ≡ take (pulses_in rest) (drop j levels)
    → line after_input u (x ∷ rest) ≡ take (pulses_in (x ∷ rest)) (drop i levels)
unfolding line pulses_in pick after_input
line_next u x rest levels i j e m level rests = go (is_pulse x) e m level
  where
    go : (b : Bool) → j ≡ i + pick b 1 0 → i + pick b (suc (pulses_in rest)) (pulses_in rest) ≤ length levels
        → (b ≡ true → (after_input u x).txd ≡ get_or levels i true)
        → pick b ((after_input u x).txd ∷ line after_input (after_input u x) rest) (line after_input (after_input u x) rest)
        ≡ take (pick b (suc (pulses_in rest)) (pulses_in rest)) (drop i levels)
    go true e m level =
        let next : j ≡ suc i = omega arith in
        rw (drop-cons levels i true (omega arith), level refl, rests, next)
    go false e m level =
        let same : j ≡ i = omega arith in
        rw (rests, same)

line_none : (u : Transmitter) (levels : List Bool) → line after_input u [] ≡ take (pulses_in []) levels
unfolding line pulses_in
line_none u levels = refl

no_pulse : pulses_in [] ≡ 0
unfolding pulses_in
no_pulse = refl

one_pulse : (x : Input) → is_pulse x ≡ true → pulses_in (x ∷ []) ≡ 1
unfolding pulses_in pick
one_pulse x e = rw e

-- from any of its pulses on
line_rest : (t : Transmitter) (s : Standing) (done rest : List Input) → Startable t s → no_reset done ≡ true → no_reset rest ≡ true
    → suc (pulses_in done) + pulses_in rest ≤ length (frame_at s t.holding)
    → line after_input (after after_input t (Pulse s ∷ done)) rest ≡ take (pulses_in rest) (drop (suc (pulses_in done)) (frame_at s t.holding))
line_rest t s done [] h k l m = line_none (after after_input t (Pulse s ∷ done)) _
line_rest t s done (x ∷ rest) h k l m =
    let both = (and-eq-true_iff (keeps x) (no_reset rest)).0 l in
    let kept = keeps_append done (x ∷ []) k ((and-eq-true_iff (keeps x) true).1 (both.0, refl)) in
    let first : pulses_in (done ++ x ∷ []) ≡ pulses_in done + pulses_in (x ∷ []) = pulses_append done (x ∷ []) in
    let all : pulses_in (x ∷ rest) ≡ pulses_in (x ∷ []) + pulses_in rest = pulses_append (x ∷ []) rest in
    let u : Transmitter = after after_input t (Pulse s ∷ done) in
    let next : after after_input t (Pulse s ∷ (done ++ x ∷ [])) ≡ after_input u x = after_then t (Pulse s ∷ done) x in
    line_next u x rest (frame_at s t.holding) (suc (pulses_in done)) (suc (pulses_in (done ++ x ∷ [])))
    (omega arith) m
    (λ p.
    let one : pulses_in (x ∷ []) ≡ 1 = one_pulse x p in
    let here : pulses_in (done ++ x ∷ []) ≡ suc (pulses_in done) = omega arith in
    rw (← next, ← here) (sends.level t s (done ++ x ∷ []) h kept (omega arith)))
    (rw (← next) (line_rest t s (done ++ x ∷ []) rest h kept both.1 (omega arith)))

-- and from its start
pub line_started : (t : Transmitter) (s : Standing) (xs : List Input) → Startable t s → no_reset xs ≡ true
    → pulses_in (Pulse s ∷ xs) ≤ length (frame_at s t.holding)
    → line after_input t (Pulse s ∷ xs) ≡ take (pulses_in (Pulse s ∷ xs)) (frame_at s t.holding)
unfolding after
line_started t s xs h k m =
    let none : pulses_in [] ≡ 0 = no_pulse in
    let one : pulses_in (Pulse s ∷ []) ≡ 1 = one_pulse (Pulse s) refl in
    let all : pulses_in (Pulse s ∷ xs) ≡ pulses_in (Pulse s ∷ []) + pulses_in xs = pulses_append (Pulse s ∷ []) xs in
    line_next t (Pulse s) xs (frame_at s t.holding) 0 1 (omega arith) (omega arith)
    (λ p. rw none at (sends.level t s [] h refl (omega arith)))
    (rw none at (line_rest t s [] xs h refl k (omega arith)))
