-- The lines of a text, in the order that the definition writes them: as text they are that text; their times rise, the values of a wire change,
-- and at each time a wire has its value of that time. By induction on the times, and on the wires of one. Assumes nothing.
use Prim.Native.Nat.{ℕ, suc, ◌≤◌}
use mathlib.Core.Path.{◌≡◌, refl, sym, ◌∙◌, ap}
use mathlib.Core.Bool.{Bool, true, false}
use mathlib.Core.List.{List, [], ◌∷◌, ◌++◌, append_assoc}
use native.Mathlib.Omega.{arith}
use Rattle.format.specs.Pick.{pick}
use Rattle.vcd_text.specs.Time.{time_of}
use Rattle.vcd_text.specs.Changes.{differ, value_lines, at_time, waves_text}
use Rattle.vcd_text.specs.Lines.{Line, line_text, lines_text, times_of, RisesFrom}
use Rattle.vcd_text.specs.Lines.Line.{Time, Value}
use Rattle.vcd_laws.specs.Shows.{OnlyChanges, CodesFrom}
use Rattle.vcd_laws.proofs.Times.{time_rises, rises_later}

-- ---- the lines ----

-- of the values of a time; those before it may be none
unfoldable pub changes_of : ℕ → List Bool → List Bool → List Line
changes_of code before [] = []
changes_of code [] (v ∷ vs) = Value code v ∷ changes_of (suc code) [] vs
changes_of code (u ∷ us) (v ∷ vs) = pick (differ u v) (Value code v ∷ []) [] ++ changes_of (suc code) us vs

unfoldable pub timed : ℕ → List Line → List Line
timed n [] = []
timed n (l ∷ ls) = Time (time_of n) ∷ l ∷ ls

unfoldable pub lines_of : ℕ → List Bool → List (List Bool) → List Line
lines_of n before [] = []
lines_of n before (vs ∷ later) = timed n (changes_of 33 before vs) ++ lines_of (suc n) vs later

-- ---- as text ----

no_lines : lines_text [] ≡ []
unfolding lines_text
no_lines = refl

lines_append : (ls ms : List Line) → lines_text (ls ++ ms) ≡ lines_text ls ++ lines_text ms
unfolding lines_text
lines_append [] ms = refl
lines_append (l ∷ ls) ms = rw (lines_append ls ms) (sym (append_assoc (line_text l) (lines_text ls) (lines_text ms)))

changes_text : (code : ℕ) (before vs : List Bool) → lines_text (changes_of code before vs) ≡ value_lines code before vs
unfolding changes_of lines_text line_text value_lines pick
changes_text code before [] = refl
changes_text code [] (v ∷ vs) = rw (changes_text (suc code) [] vs)
changes_text code (true ∷ us) (true ∷ vs) = changes_text (suc code) us vs
changes_text code (true ∷ us) (false ∷ vs) = rw (changes_text (suc code) us vs)
changes_text code (false ∷ us) (true ∷ vs) = rw (changes_text (suc code) us vs)
changes_text code (false ∷ us) (false ∷ vs) = changes_text (suc code) us vs

timed_text : (n : ℕ) (ls : List Line) → lines_text (timed n ls) ≡ at_time n (lines_text ls)
unfolding timed lines_text line_text at_time
timed_text n [] = refl
timed_text n (Time t ∷ ls) = refl
timed_text n (Value c v ∷ ls) = refl

pub lines_text_lem : (n : ℕ) (before : List Bool) (waves : List (List Bool)) → lines_text (lines_of n before waves) ≡ waves_text n before waves
unfolding lines_of waves_text
lines_text_lem n before [] = no_lines
lines_text_lem n before (vs ∷ later) =
    lines_append (timed n (changes_of 33 before vs)) (lines_of (suc n) vs later)
    ∙ rw (timed_text n (changes_of 33 before vs), changes_text 33 before vs, lines_text_lem (suc n) vs later)

-- ---- the times ----

times_append : (ls ms : List Line) → times_of (ls ++ ms) ≡ times_of ls ++ times_of ms
unfolding times_of
times_append [] ms = refl
times_append (Time t ∷ ls) ms = rw (times_append ls ms)
times_append (Value c v ∷ ls) ms = times_append ls ms

changes_times : (code : ℕ) (before vs : List Bool) → times_of (changes_of code before vs) ≡ []
unfolding changes_of times_of pick
changes_times code before [] = refl
changes_times code [] (v ∷ vs) = changes_times (suc code) [] vs
changes_times code (true ∷ us) (true ∷ vs) = changes_times (suc code) us vs
changes_times code (true ∷ us) (false ∷ vs) = changes_times (suc code) us vs
changes_times code (false ∷ us) (true ∷ vs) = changes_times (suc code) us vs
changes_times code (false ∷ us) (false ∷ vs) = changes_times (suc code) us vs

none_rise : (t : ℕ) → RisesFrom t (times_of [])
unfolding times_of RisesFrom
none_rise t = tt

-- a time, if it has a value, and later ones
timed_rises : (n : ℕ) (ls : List Line) (ts : List ℕ) → times_of ls ≡ [] → RisesFrom (suc (time_of n)) ts
    → RisesFrom (time_of n) (times_of (timed n ls) ++ ts)
unfolding timed times_of RisesFrom
timed_rises n [] ts e r = rises_later (time_of n) (suc (time_of n)) ts (omega arith) r
timed_rises n (Time t ∷ ls) ts e r = absurd (let z : ◌≡◌ {A = ℕ} 1 0 = ap count e in omega arith)
  where
    count : List ℕ → ℕ
    count [] = 0
    count (x ∷ xs) = 1
timed_rises n (Value c v ∷ ls) ts e r = rw e (omega arith, r)

pub lines_rise : (n : ℕ) (before : List Bool) (waves : List (List Bool)) → RisesFrom (time_of n) (times_of (lines_of n before waves))
unfolding lines_of
lines_rise n before [] = none_rise (time_of n)
lines_rise n before (vs ∷ later) =
    rw (times_append (timed n (changes_of 33 before vs)) (lines_of (suc n) vs later))
    (timed_rises n (changes_of 33 before vs) _ (changes_times 33 before vs)
    (rises_later (suc (time_of n)) (time_of (suc n)) _ (time_rises n) (lines_rise (suc n) vs later)))

-- ---- a value after each time, and their order ----

-- only values, and their codes from one on
unfoldable ValuesFrom : ℕ → List Line → Type 0
ValuesFrom code [] = Unit {0}
ValuesFrom code (Time t ∷ ls) = ⊥
ValuesFrom code (Value c v ∷ ls) = (code ≤ c) × ValuesFrom (suc c) ls

values_later : (b c : ℕ) (ls : List Line) → b ≤ c → ValuesFrom c ls → ValuesFrom b ls
unfolding ValuesFrom
values_later b c [] h r = tt
values_later b c (Time t ∷ ls) h r = r
values_later b c (Value d v ∷ ls) h r = (omega (arith, r.0), r.1)

changes_values : (code : ℕ) (before vs : List Bool) → ValuesFrom code (changes_of code before vs)
unfolding changes_of ValuesFrom pick
changes_values code before [] = tt
changes_values code [] (v ∷ vs) = (omega arith, changes_values (suc code) [] vs)
changes_values code (true ∷ us) (true ∷ vs) = values_later code (suc code) (changes_of (suc code) us vs) (omega arith) (changes_values (suc code) us vs)
changes_values code (true ∷ us) (false ∷ vs) = (omega arith, changes_values (suc code) us vs)
changes_values code (false ∷ us) (true ∷ vs) = (omega arith, changes_values (suc code) us vs)
changes_values code (false ∷ us) (false ∷ vs) = values_later code (suc code) (changes_of (suc code) us vs) (omega arith) (changes_values (suc code) us vs)

only_after : (c : ℕ) (ls ms : List Line) → ValuesFrom c ls → OnlyChanges ms → OnlyChanges (ls ++ ms)
unfolding ValuesFrom OnlyChanges
only_after c [] ms h o = o
only_after c (Time t ∷ ls) ms h o = absurd h
only_after c (Value d v ∷ ls) ms h o = only_after (suc d) ls ms h.1 o

only_timed : (n c : ℕ) (ls ms : List Line) → ValuesFrom c ls → OnlyChanges ms → OnlyChanges (timed n ls ++ ms)
unfolding timed ValuesFrom OnlyChanges
only_timed n c [] ms h o = o
only_timed n c (Time t ∷ ls) ms h o = absurd h
only_timed n c (Value d v ∷ ls) ms h o = only_after (suc d) ls ms h.1 o

pub lines_only : (n : ℕ) (before : List Bool) (waves : List (List Bool)) → OnlyChanges (lines_of n before waves)
unfolding lines_of OnlyChanges
lines_only n before [] = tt
lines_only n before (vs ∷ later) =
    only_timed n 33 (changes_of 33 before vs) (lines_of (suc n) vs later) (changes_values 33 before vs) (lines_only (suc n) vs later)

-- what follows begins anew, or is nothing
order_after : (c : ℕ) (ls ms : List Line) → ValuesFrom c ls → ((b : ℕ) → CodesFrom b ms) → CodesFrom c (ls ++ ms)
unfolding ValuesFrom CodesFrom
order_after c [] ms h o = o c
order_after c (Time t ∷ ls) ms h o = absurd h
order_after c (Value d v ∷ ls) ms h o = (h.0, order_after (suc d) ls ms h.1 o)

order_timed : (n c b : ℕ) (ls ms : List Line) → ValuesFrom c ls → ((b : ℕ) → CodesFrom b ms) → CodesFrom b (timed n ls ++ ms)
unfolding timed ValuesFrom CodesFrom
order_timed n c b [] ms h o = o b
order_timed n c b (Time t ∷ ls) ms h o = absurd h
order_timed n c b (Value d v ∷ ls) ms h o = (omega arith, order_after (suc d) ls ms h.1 o)

pub lines_order : (n b : ℕ) (before : List Bool) (waves : List (List Bool)) → CodesFrom b (lines_of n before waves)
unfolding lines_of CodesFrom
lines_order n b before [] = tt
lines_order n b before (vs ∷ later) =
    order_timed n 33 b (changes_of 33 before vs) (lines_of (suc n) vs later) (changes_values 33 before vs) (λ c. lines_order (suc n) c vs later)
