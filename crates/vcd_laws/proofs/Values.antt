-- The values of a wire: each differs from the one before. By induction on the times, and on the wires of one. Assumes nothing.
use Prim.Native.Nat.{ℕ, zero, suc, ◌+◌, ◌-◌, ◌≤◌, ◌<◌}
use mathlib.Core.Path.{◌≡◌, refl, sym, ◌∙◌}
use mathlib.Core.Bool.{Bool, true, false}
use mathlib.Core.List.{List, [], ◌∷◌, ◌++◌}
use native.Mathlib.Omega.{arith}
use lib.Dec.{eqb, ltb}
use lib.ListN.{length, get_or}
use borrow.Author.Tests.{eq-eqb, ne_eqb, ltb-true, ltb-false}
use Rattle.format.specs.Pick.{pick}
use Rattle.vcd_text.specs.Changes.{differ}
use Rattle.vcd_text.specs.Lines.{Line, values_on}
use Rattle.vcd_text.specs.Lines.Line.{Time, Value}
use Rattle.vcd_laws.specs.Shows.{ChangesFrom, Changes}
use Rattle.vcd_laws.proofs.Lines.{changes_of, timed, lines_of}

-- as many wires at each time
unfoldable pub Eleven : List (List Bool) → Type 0
Eleven [] = Unit {0}
Eleven (vs ∷ later) = (length vs ≡ 11) × Eleven later

values_append : (code : ℕ) (ls ms : List Line) → values_on code (ls ++ ms) ≡ values_on code ls ++ values_on code ms
unfolding values_on pick
values_append code [] ms = refl
values_append code (Time t ∷ ls) ms = values_append code ls ms
values_append code (Value c v ∷ ls) ms = rw (values_append code ls ms) (both (eqb c code))
  where
    both : (t : Bool) → pick t (v ∷ values_on code ls ++ values_on code ms) (values_on code ls ++ values_on code ms)
        ≡ pick t (v ∷ values_on code ls) (values_on code ls) ++ values_on code ms
    both true = refl
    both false = refl

timed_values : (code n : ℕ) (ls : List Line) → values_on code (timed n ls) ≡ values_on code ls
unfolding timed values_on
timed_values code n [] = refl
timed_values code n (l ∷ ls) = refl

none_on : (code : ℕ) → values_on code [] ≡ []
unfolding values_on
none_on code = refl

-- a line of another wire
other_wire : (c code : ℕ) (v : Bool) (ls : List Line) → (c ≡ code → ⊥) → values_on code (Value c v ∷ ls) ≡ values_on code ls
unfolding values_on pick
other_wire c code v ls h = rw (ne_eqb c code h)

-- no line of the wires from here on is one of a wire before them, nor of one past them
values_below : (code c : ℕ) (us vs : List Bool) → code < c → values_on code (changes_of c us vs) ≡ []
unfolding changes_of pick
values_below code c us [] h = none_on code
values_below code c [] (v ∷ vs) h =
    other_wire c code v _ (λ (e : c ≡ code). omega arith) ∙ values_below code (suc c) [] vs (omega arith)
values_below code c (true ∷ us) (true ∷ vs) h = values_below code (suc c) us vs (omega arith)
values_below code c (true ∷ us) (false ∷ vs) h =
    other_wire c code false _ (λ (e : c ≡ code). omega arith) ∙ values_below code (suc c) us vs (omega arith)
values_below code c (false ∷ us) (true ∷ vs) h =
    other_wire c code true _ (λ (e : c ≡ code). omega arith) ∙ values_below code (suc c) us vs (omega arith)
values_below code c (false ∷ us) (false ∷ vs) h = values_below code (suc c) us vs (omega arith)

-- the number of the next wire
next_on : (k c : ℕ) (ls : List Line) (r : List Bool) → values_on (suc c + k) ls ≡ r → values_on (c + suc k) ls ≡ r
next_on k c ls r h = let e : c + suc k ≡ suc c + k = omega arith in rw e h

next_past : (k c : ℕ) (ls : List Line) → values_on (suc c + k) ls ≡ [] → values_on (c + suc k) ls ≡ []
next_past k c ls h = next_on k c ls [] h

values_past : (k c : ℕ) (us vs : List Bool) → length vs ≤ k → values_on (c + k) (changes_of c us vs) ≡ []
unfolding changes_of pick
values_past k c us [] h = none_on (c + k)
values_past zero c us (v ∷ vs) h = absurd (omega arith)
values_past (suc k) c [] (v ∷ vs) h =
    other_wire c (c + suc k) v _ (λ (e : c ≡ c + suc k). omega arith) ∙ next_past k c (changes_of (suc c) [] vs) (values_past k (suc c) [] vs (omega arith))
values_past (suc k) c (true ∷ us) (true ∷ vs) h = next_past k c _ (values_past k (suc c) us vs (omega arith))
values_past (suc k) c (true ∷ us) (false ∷ vs) h =
    other_wire c (c + suc k) false _ (λ (e : c ≡ c + suc k). omega arith) ∙ next_past k c _ (values_past k (suc c) us vs (omega arith))
values_past (suc k) c (false ∷ us) (true ∷ vs) h =
    other_wire c (c + suc k) true _ (λ (e : c ≡ c + suc k). omega arith) ∙ next_past k c _ (values_past k (suc c) us vs (omega arith))
values_past (suc k) c (false ∷ us) (false ∷ vs) h = next_past k c _ (values_past k (suc c) us vs (omega arith))

-- the wire's own line, if its value changed
own_line : (c : ℕ) (v : Bool) (ls : List Line) → values_on c (Value c v ∷ ls) ≡ v ∷ values_on c ls
unfolding values_on pick
own_line c v ls = rw (eq-eqb c c refl)

at_own : (c : ℕ) (ls : List Line) → values_on c ls ≡ [] → values_on (c + 0) ls ≡ []
at_own c ls h = let e : c + 0 ≡ c = omega arith in rw e h

own_first : (c : ℕ) (v : Bool) (ls : List Line) → values_on c ls ≡ [] → values_on (c + 0) (Value c v ∷ ls) ≡ v ∷ []
own_first c v ls h = let e : c + 0 ≡ c = omega arith in rw e (own_line c v ls ∙ rw h)

wire_values : (k c : ℕ) (us vs : List Bool) → k < length vs → length us ≡ length vs
    → values_on (c + k) (changes_of c us vs) ≡ pick (differ (get_or us k true) (get_or vs k true)) (get_or vs k true ∷ []) []
unfolding changes_of pick
wire_values k c us [] h l = absurd (omega arith)
wire_values k c [] (v ∷ vs) h l = absurd (omega arith)
wire_values zero c (true ∷ us) (true ∷ vs) h l = at_own c _ (values_below c (suc c) us vs (omega arith))
wire_values zero c (true ∷ us) (false ∷ vs) h l = own_first c false _ (values_below c (suc c) us vs (omega arith))
wire_values zero c (false ∷ us) (true ∷ vs) h l = own_first c true _ (values_below c (suc c) us vs (omega arith))
wire_values zero c (false ∷ us) (false ∷ vs) h l = at_own c _ (values_below c (suc c) us vs (omega arith))
wire_values (suc k) c (true ∷ us) (true ∷ vs) h l = next_on k c _ _ (wire_values k (suc c) us vs (omega arith) (omega arith))
wire_values (suc k) c (true ∷ us) (false ∷ vs) h l =
    other_wire c (c + suc k) false _ (λ (e : c ≡ c + suc k). omega arith) ∙ next_on k c _ _ (wire_values k (suc c) us vs (omega arith) (omega arith))
wire_values (suc k) c (false ∷ us) (true ∷ vs) h l =
    other_wire c (c + suc k) true _ (λ (e : c ≡ c + suc k). omega arith) ∙ next_on k c _ _ (wire_values k (suc c) us vs (omega arith) (omega arith))
wire_values (suc k) c (false ∷ us) (false ∷ vs) h l = next_on k c _ _ (wire_values k (suc c) us vs (omega arith) (omega arith))

-- at the first time all are written
first_values : (k c : ℕ) (vs : List Bool) → k < length vs → values_on (c + k) (changes_of c [] vs) ≡ get_or vs k true ∷ []
unfolding changes_of
first_values k c [] h = absurd (omega arith)
first_values zero c (v ∷ vs) h = own_first c v _ (values_below c (suc c) [] vs (omega arith))
first_values (suc k) c (v ∷ vs) h =
    other_wire c (c + suc k) v _ (λ (e : c ≡ c + suc k). omega arith) ∙ next_on k c _ _ (first_values k (suc c) vs (omega arith))

-- ---- over the times ----

none_change : (u : Bool) (code : ℕ) → ChangesFrom u (values_on code [])
unfolding values_on ChangesFrom
none_change u code = tt

no_changes : (code : ℕ) → Changes (values_on code [])
unfolding values_on Changes
no_changes code = tt

nothing_changes : Changes []
unfolding Changes
nothing_changes = tt

begins : (v : Bool) (vs : List Bool) → ChangesFrom v vs → Changes ((v ∷ []) ++ vs)
unfolding Changes
begins v vs h = h

-- a value that differs is one more, and one that does not is the one before
one_more : (u v : Bool) (vs : List Bool) → ChangesFrom v vs → ChangesFrom u (pick (differ u v) (v ∷ []) [] ++ vs)
unfolding ChangesFrom pick
one_more true true vs h = h
one_more true false vs h = (refl, h)
one_more false true vs h = (refl, h)
one_more false false vs h = h

wire_changes : (k n : ℕ) (us : List Bool) (waves : List (List Bool)) → k < 11 → length us ≡ 11 → Eleven waves
    → ChangesFrom (get_or us k true) (values_on (33 + k) (lines_of n us waves))
unfolding lines_of Eleven
wire_changes k n us [] h l e = none_change (get_or us k true) (33 + k)
wire_changes k n us (vs ∷ later) h l e =
    rw (
      values_append (33 + k) (timed n (changes_of 33 us vs)) (lines_of (suc n) vs later),
      timed_values (33 + k) n (changes_of 33 us vs),
      wire_values k 33 us vs (omega (arith, e.0)) (l ∙ sym e.0),
    )
    (one_more (get_or us k true) (get_or vs k true) _ (wire_changes k (suc n) vs later h e.0 e.1))

other_changes : (code n : ℕ) (us : List Bool) (waves : List (List Bool)) → ((vs ws : List Bool) → length ws ≡ 11 → values_on code (changes_of 33 vs ws) ≡ [])
    → Eleven waves → values_on code (lines_of n us waves) ≡ []
unfolding lines_of Eleven
other_changes code n us [] h e = none_on code
other_changes code n us (vs ∷ later) h e =
    rw (
      values_append code (timed n (changes_of 33 us vs)) (lines_of (suc n) vs later),
      timed_values code n (changes_of 33 us vs),
      h us vs e.0,
      other_changes code (suc n) vs later h e.1,
    )

first_changes : (k n : ℕ) (waves : List (List Bool)) → k < 11 → Eleven waves → Changes (values_on (33 + k) (lines_of n [] waves))
unfolding lines_of Eleven
first_changes k n [] h e = no_changes (33 + k)
first_changes k n (vs ∷ later) h e =
    rw (
      values_append (33 + k) (timed n (changes_of 33 [] vs)) (lines_of (suc n) vs later),
      timed_values (33 + k) n (changes_of 33 [] vs),
      first_values k 33 vs (omega (arith, e.0)),
    )
    (begins (get_or vs k true) _ (wire_changes k (suc n) vs later h e.0 e.1))

pub lines_change : (code n : ℕ) (waves : List (List Bool)) → Eleven waves → Changes (values_on code (lines_of n [] waves))
lines_change code n waves e = go (ltb code 33) refl (ltb (code - 33) 11) refl
  where
    go : (t : Bool) → ltb code 33 ≡ t → (u : Bool) → ltb (code - 33) 11 ≡ u → Changes (values_on code (lines_of n [] waves))
    go true p u q = rw (other_changes code n [] waves (λ vs ws l. values_below code 33 vs ws (ltb-true code 33 p)) e) nothing_changes
    go false p true q =
        let b = ltb-false code 33 p in
        let c : 33 + (code - 33) ≡ code = omega arith in
        rw c at (first_changes (code - 33) n waves (ltb-true (code - 33) 11 q) e)
    go false p false q =
        let b = ltb-false code 33 p in
        let far = ltb-false (code - 33) 11 q in
        let c : 33 + (code - 33) ≡ code = omega arith in
        rw (other_changes code n [] waves (λ vs ws l. rw c at (values_past (code - 33) 33 vs ws (omega arith))) e) nothing_changes
