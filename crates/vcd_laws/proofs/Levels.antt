-- The level of a wire at a time: a time's own lines leave it at the value of that time, and later ones do not count. By induction on the times, and
-- on the wires of one. Assumes nothing.
use Prim.Native.Nat.{ℕ, zero, suc, ◌+◌, ◌≤◌, ◌<◌}
use mathlib.Core.Path.{◌≡◌, refl, sym, ◌∙◌}
use mathlib.Core.Bool.{Bool, true, false}
use mathlib.Core.List.{List, [], ◌∷◌, ◌++◌}
use native.Mathlib.Omega.{arith}
use lib.ListN.{length, get_or}
use borrow.Author.Tests.{eq-eqb, ne_eqb, le-leb, lt-leb}
use Rattle.format.specs.Pick.{pick}
use Rattle.vcd_text.specs.Time.{time_of}
use Rattle.vcd_text.specs.Lines.{Line, level_at}
use Rattle.vcd_text.specs.Lines.Line.{Value}
use Rattle.vcd_laws.proofs.Lines.{changes_of, timed, lines_of}
use Rattle.vcd_laws.proofs.Values.{Eleven}

-- ---- one line ----

other_level : (t c code : ℕ) (v level : Bool) (ls : List Line) → (c ≡ code → ⊥) → level_at t code level (Value c v ∷ ls) ≡ level_at t code level ls
unfolding level_at pick
other_level t c code v level ls h = rw (ne_eqb c code h)

own_level : (t c : ℕ) (v level : Bool) (ls : List Line) → level_at t c level (Value c v ∷ ls) ≡ level_at t c v ls
unfolding level_at pick
own_level t c v level ls = rw (eq-eqb c c refl)

no_level : (t code : ℕ) (level : Bool) → level_at t code level [] ≡ level
unfolding level_at
no_level t code level = refl

-- ---- the lines of a time ----

-- those of the wires from here on do not touch one before them
level_below : (t code c : ℕ) (level : Bool) (us vs : List Bool) (ms : List Line) → code < c
    → level_at t code level (changes_of c us vs ++ ms) ≡ level_at t code level ms
unfolding changes_of pick
level_below t code c level us [] ms h = refl
level_below t code c level [] (v ∷ vs) ms h =
    other_level t c code v level _ (λ (e : c ≡ code). omega arith) ∙ level_below t code (suc c) level [] vs ms (omega arith)
level_below t code c level (true ∷ us) (true ∷ vs) ms h = level_below t code (suc c) level us vs ms (omega arith)
level_below t code c level (true ∷ us) (false ∷ vs) ms h =
    other_level t c code false level _ (λ (e : c ≡ code). omega arith) ∙ level_below t code (suc c) level us vs ms (omega arith)
level_below t code c level (false ∷ us) (true ∷ vs) ms h =
    other_level t c code true level _ (λ (e : c ≡ code). omega arith) ∙ level_below t code (suc c) level us vs ms (omega arith)
level_below t code c level (false ∷ us) (false ∷ vs) ms h = level_below t code (suc c) level us vs ms (omega arith)

-- the number of the wire itself, and of the next
here : (t c : ℕ) (level to : Bool) (ls ms : List Line) → level_at t c level ls ≡ level_at t c to ms → level_at t (c + 0) level ls ≡ level_at t (c + 0) to ms
here t c level to ls ms h = let e : c + 0 ≡ c = omega arith in rw e h

next : (t c k : ℕ) (level to : Bool) (ls ms : List Line) → level_at t (suc c + k) level ls ≡ level_at t (suc c + k) to ms
    → level_at t (c + suc k) level ls ≡ level_at t (c + suc k) to ms
next t c k level to ls ms h = let e : c + suc k ≡ suc c + k = omega arith in rw e h

-- a wire that had its value of the time before has that of this time
level_on : (t k c : ℕ) (us vs : List Bool) (ms : List Line) → k < length vs → length us ≡ length vs
    → level_at t (c + k) (get_or us k true) (changes_of c us vs ++ ms) ≡ level_at t (c + k) (get_or vs k true) ms
unfolding changes_of pick
level_on t k c us [] ms h l = absurd (omega arith)
level_on t k c [] (v ∷ vs) ms h l = absurd (omega arith)
level_on t zero c (true ∷ us) (true ∷ vs) ms h l = here t c true true _ ms (level_below t c (suc c) true us vs ms (omega arith))
level_on t zero c (true ∷ us) (false ∷ vs) ms h l =
    here t c true false _ ms (own_level t c false true _ ∙ level_below t c (suc c) false us vs ms (omega arith))
level_on t zero c (false ∷ us) (true ∷ vs) ms h l =
    here t c false true _ ms (own_level t c true false _ ∙ level_below t c (suc c) true us vs ms (omega arith))
level_on t zero c (false ∷ us) (false ∷ vs) ms h l = here t c false false _ ms (level_below t c (suc c) false us vs ms (omega arith))
level_on t (suc k) c (true ∷ us) (true ∷ vs) ms h l = next t c k _ _ _ ms (level_on t k (suc c) us vs ms (omega arith) (omega arith))
level_on t (suc k) c (true ∷ us) (false ∷ vs) ms h l =
    other_level t c (c + suc k) false _ _ (λ (e : c ≡ c + suc k). omega arith) ∙ next t c k _ _ _ ms (level_on t k (suc c) us vs ms (omega arith) (omega arith))
level_on t (suc k) c (false ∷ us) (true ∷ vs) ms h l =
    other_level t c (c + suc k) true _ _ (λ (e : c ≡ c + suc k). omega arith) ∙ next t c k _ _ _ ms (level_on t k (suc c) us vs ms (omega arith) (omega arith))
level_on t (suc k) c (false ∷ us) (false ∷ vs) ms h l = next t c k _ _ _ ms (level_on t k (suc c) us vs ms (omega arith) (omega arith))

-- at the first time, whatever it had before
level_first : (t k c : ℕ) (level : Bool) (vs : List Bool) (ms : List Line) → k < length vs
    → level_at t (c + k) level (changes_of c [] vs ++ ms) ≡ level_at t (c + k) (get_or vs k true) ms
unfolding changes_of
level_first t k c level [] ms h = absurd (omega arith)
level_first t zero c level (v ∷ vs) ms h = here t c level v _ ms (own_level t c v level _ ∙ level_below t c (suc c) v [] vs ms (omega arith))
level_first t (suc k) c level (v ∷ vs) ms h =
    other_level t c (c + suc k) v level _ (λ (e : c ≡ c + suc k). omega arith) ∙ next t c k _ _ _ ms (level_first t k (suc c) level vs ms (omega arith))

-- ---- over the times ----

-- a time that has come
level_timed : (t code n : ℕ) (level : Bool) (ls ms : List Line) → time_of n ≤ t → level_at t code level (timed n ls ++ ms) ≡ level_at t code level (ls ++ ms)
unfolding timed level_at pick
level_timed t code n level [] ms h = refl
level_timed t code n level (l ∷ ls) ms h = rw (le-leb (time_of n) t h)

-- one that has not
level_not_yet : (t code n : ℕ) (level : Bool) (ls ms : List Line) → t < time_of n → level_at t code level ms ≡ level
    → level_at t code level (timed n ls ++ ms) ≡ level
unfolding timed level_at pick
level_not_yet t code n level [] ms h e = e
level_not_yet t code n level (l ∷ ls) ms h e = rw (lt-leb (time_of n) t h)

level_later : (t code n : ℕ) (level : Bool) (us : List Bool) (waves : List (List Bool)) → t < time_of n
    → level_at t code level (lines_of n us waves) ≡ level
unfolding lines_of
level_later t code n level us [] h = no_level t code level
level_later t code n level us (vs ∷ later) h =
    level_not_yet t code n level (changes_of 33 us vs) (lines_of (suc n) vs later) h (level_later t code (suc n) level vs later (omega arith))

pub level_shown : (m n k : ℕ) (us : List Bool) (waves : List (List Bool)) → k < 11 → length us ≡ 11 → Eleven waves → m < length waves
    → level_at (time_of (n + m)) (33 + k) (get_or us k true) (lines_of n us waves) ≡ get_or (get_or waves m []) k true
unfolding lines_of Eleven
level_shown m n k us [] h l e b = absurd (omega arith)
level_shown zero n k us (vs ∷ later) h l e b =
    level_timed (time_of (n + 0)) (33 + k) n (get_or us k true) (changes_of 33 us vs) (lines_of (suc n) vs later) (omega arith)
    ∙ level_on (time_of (n + 0)) k 33 us vs (lines_of (suc n) vs later) (omega (arith, e.0)) (l ∙ sym e.0)
    ∙ level_later (time_of (n + 0)) (33 + k) (suc n) (get_or vs k true) vs later (omega arith)
level_shown (suc m) n k us (vs ∷ later) h l e b =
    let s : n + suc m ≡ suc n + m = omega arith in
    level_timed (time_of (n + suc m)) (33 + k) n (get_or us k true) (changes_of 33 us vs) (lines_of (suc n) vs later) (omega arith)
    ∙ level_on (time_of (n + suc m)) k 33 us vs (lines_of (suc n) vs later) (omega (arith, e.0)) (l ∙ sym e.0)
    ∙ rw s (level_shown m (suc n) k vs later h e.0 e.1 (omega arith))

-- from time 0 on, where no value was written before
pub level_dumped : (m k : ℕ) (level : Bool) (waves : List (List Bool)) → k < 11 → Eleven waves → m < length waves
    → level_at (time_of m) (33 + k) level (lines_of 0 [] waves) ≡ get_or (get_or waves m []) k true
unfolding lines_of Eleven
level_dumped m k level [] h e b = absurd (omega arith)
level_dumped zero k level (vs ∷ later) h e b =
    level_timed (time_of 0) (33 + k) 0 level (changes_of 33 [] vs) (lines_of 1 vs later) (omega arith)
    ∙ level_first (time_of 0) k 33 level vs (lines_of 1 vs later) (omega (arith, e.0))
    ∙ level_later (time_of 0) (33 + k) 1 (get_or vs k true) vs later (omega arith)
level_dumped (suc m) k level (vs ∷ later) h e b =
    let s : suc m ≡ 1 + m = omega arith in
    level_timed (time_of (suc m)) (33 + k) 0 level (changes_of 33 [] vs) (lines_of 1 vs later) (omega arith)
    ∙ level_first (time_of (suc m)) k 33 level vs (lines_of 1 vs later) (omega (arith, e.0))
    ∙ rw s (level_shown m 1 k vs later h e.0 e.1 (omega arith))
