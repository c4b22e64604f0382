-- What is heard of a wire is what the pulses bring that find the wire's levels: line by line, each time splits the pulses into those before it, which find the level before it, and the others. Assumes nothing.
use Prim.Native.Nat.{ℕ, zero, suc, ◌+◌, ◌-◌, ◌*◌, ◌/◌, ◌≤◌, ◌<◌}
use mathlib.Core.Path.{◌≡◌, refl, sym, ◌∙◌, ap}
use mathlib.Core.Bool.{Bool, true, false}
use mathlib.Core.List.{List, [], ◌∷◌, ◌++◌}
use native.Mathlib.Nat.{le-div_iff_mul-le, div-lt_iff_lt-mul, mul-pos, zero-lt-suc, le_refl}
use native.Mathlib.Omega.{arith}
use lib.Dec.{eqb, leb}
use borrow.Author.Tests.{le-leb, lt-leb, ne_eqb}
use Rattle.format.specs.Pick.{pick}
use Rattle.feed.specs.declared.feed.Setting.{Setting}
use Rattle.character.specs.declared.character.Character.{Character}
use Rattle.sampler_state.specs.declared.state.Sampler.{Sampler}
use Rattle.sampler.specs.Lines.{after_lines, arrivals}
use Rattle.vcd_text.specs.Time.{time_of}
use Rattle.vcd_text.specs.Lines.{Line, lines_text, level_at}
use Rattle.vcd_text.specs.Lines.Line.{Time, Value}
use Rattle.vcd_lines.specs.declared.body.Reading.{Reading}
use Rattle.vcd_lines.specs.declared.body.Said.{Said}
use Rattle.vcd_lines.specs.declared.body.Said.TheVariants.{NoLine, TimeLine, ValueLine}
use Rattle.vcd_lines.specs.Body.{started, taken_of, said_of, line_of, lines_read}
use Rattle.vcd_lines.proofs.Laws.Reads.{readable, lines-read}
use Rattle.sampler_state.specs.State.{hunting}
use Rattle.vcd_capture.specs.declared.ear.Ear.{Ear}
use Rattle.vcd_capture.specs.Ear.{ticks_before, pulses_before, pulses_at, pulses_to, ear_until, heard_until, ear_value, ear_said, heard_said, heard_from, just_enabled}
use Rattle.vcd_capture.specs.Waves.{level_pulses, pulses_over, NoneAfter}
use Rattle.vcd_capture.proofs.Laws.Hops.{arrivals_append}

-- ---- line by line ----

heard_lines : ℕ → Setting → ℕ → ℕ → Ear → List Line → List Character
heard_lines period f code end e [] = heard_until period f end e
heard_lines period f code end e (Time t ∷ ls) = heard_until period f t e ++ heard_lines period f code end (ear_until period f t e) ls
heard_lines period f code end e (Value c v ∷ ls) = heard_lines period f code end (ear_value e c v code) ls

by_lines : (period : ℕ) (f : Setting) (code end : ℕ) (r : Reading) (e : Ear) (bs : List ℕ)
    → heard_from period f code end r e bs ≡ heard_lines period f code end e (lines_read (λ (b : ℕ). true) r bs)
unfolding heard_from heard_lines lines_read heard_said ear_said
by_lines period f code end r e [] = refl
by_lines period f code end r e (b ∷ bs) =
    ap (λ (cs : List Character). heard_said period f e (said_of r b) ++ cs)
    (by_lines period f code end (taken_of r b true) (ear_said period f code e (said_of r b)) bs)
    ∙ one_line period f code end e (said_of r b) (lines_read (λ (b : ℕ). true) (taken_of r b true) bs)
  where
    one_line : (period : ℕ) (f : Setting) (code end : ℕ) (e : Ear) (s : Said) (ls : List Line)
        → heard_said period f e s ++ heard_lines period f code end (ear_said period f code e s) ls ≡ heard_lines period f code end e (line_of s ++ ls)
    one_line period f code end e NoLine ls = refl
    one_line period f code end e (TimeLine t) ls = refl
    one_line period f code end e (ValueLine c v) ls = refl

-- ---- the pulses before a time, and the others ----

module _ (p : ℕ) where
  pulses_are : (t : ℕ) → pulses_before (suc p) t ≡ ticks_before t / suc p
  unfolding pulses_before pick
  pulses_are t = rw (ne_eqb (suc p) 0 (λ (z : suc p ≡ 0). omega arith))

  pub early : (j t : ℕ) → 0 < j → j ≤ pulses_before (suc p) t → leb t (time_of (j * suc p)) ≡ false
  unfolding ticks_before
  early j t some h =
      let n : j * suc p ≤ ticks_before t = (le-div_iff_mul-le (zero-lt-suc p)).0 (rw (pulses_are t) at h) in
      let m : 0 < j * suc p = mul-pos some (zero-lt-suc p) in
      lt-leb t (time_of (j * suc p)) (omega arith)

  pub late : (j t : ℕ) → pulses_before (suc p) t < j → leb t (time_of (j * suc p)) ≡ true
  unfolding ticks_before
  late j t h =
      let n : ticks_before t < j * suc p = (div-lt_iff_lt-mul (zero-lt-suc p)).0 (rw (pulses_are t) at h) in
      le-leb t (time_of (j * suc p)) (omega arith)

  pulses-rise : (t u : ℕ) → t ≤ u → pulses_before (suc p) t ≤ pulses_before (suc p) u
  unfolding ticks_before
  pulses-rise t u h =
      let whole : ticks_before t / suc p * suc p ≤ ticks_before t = (le-div_iff_mul-le (zero-lt-suc p)).0 (le_refl _) in
      let up : ticks_before t ≤ ticks_before u = omega arith in
      rw (pulses_are t, pulses_are u) ((le-div_iff_mul-le (zero-lt-suc p)).1 (omega arith))

  module _ (f : Setting) (code : ℕ) where
    over-early : (level : Bool) (t : ℕ) (ls : List Line) (n k : ℕ) → n ≤ pulses_before (suc p) t - k
        → pulses_over (suc p) f code level (Time t ∷ ls) (suc k) n ≡ pulses_at n level f
    unfolding level_pulses level_at pick
    over-early level t ls zero k h = refl
    over-early level t ls (suc n) k h =
        rw (early (suc k) t (zero-lt-suc k) (omega arith), over-early level t ls n (suc k) (omega arith))

    over-late : (level : Bool) (t : ℕ) (ls : List Line) (n k : ℕ) → pulses_before (suc p) t ≤ k
        → pulses_over (suc p) f code level (Time t ∷ ls) (suc k) n ≡ pulses_over (suc p) f code level ls (suc k) n
    unfolding level_pulses level_at pick
    over-late level t ls zero k h = refl
    over-late level t ls (suc n) k h =
        rw (late (suc k) t (omega arith), over-late level t ls n (suc k) (omega arith))

    over_none : (level : Bool) (n k : ℕ) → pulses_over (suc p) f code level [] k n ≡ pulses_at n level f
    unfolding level_pulses level_at
    over_none level zero k = refl
    over_none level (suc n) k = rw (over_none level n (suc k))

    over-value : (level : Bool) (c : ℕ) (v : Bool) (ls : List Line) (n k : ℕ)
        → pulses_over (suc p) f code level (Value c v ∷ ls) k n ≡ pulses_over (suc p) f code (pick (eqb c code) v level) ls k n
    unfolding level_pulses level_at
    over-value level c v ls zero k = refl
    over-value level c v ls (suc n) k = rw (over-value level c v ls n (suc k))

    over_append : (level : Bool) (ls : List Line) (a b k : ℕ)
        → pulses_over (suc p) f code level ls k (a + b) ≡ pulses_over (suc p) f code level ls k a ++ pulses_over (suc p) f code level ls (k + a) b
    unfolding level_pulses
    over_append level ls zero b k = let e : k + 0 ≡ k = omega arith in let z : 0 + b ≡ b = omega arith in rw (e, z)
    over_append level ls (suc a) b k =
        let e : k + suc a ≡ suc k + a = omega arith in
        let z : suc a + b ≡ suc (a + b) = omega arith in
        rw (z, over_append level ls a b (suc k), e)

    -- a time splits them
    over-split : (s : Sampler) (level : Bool) (t : ℕ) (ls : List Line) (a n k : ℕ) → a ≡ pulses_before (suc p) t - k
        → arrivals s (pulses_over (suc p) f code level (Time t ∷ ls) (suc k) (a + n))
        ≡ arrivals s (pulses_at a level f) ++ arrivals (after_lines s (pulses_at a level f)) (pulses_over (suc p) f code level ls (suc (k + a)) n)
    over-split s level t ls a n k h =
        let e : suc k + a ≡ suc (k + a) = omega arith in
        rw (
          over_append level (Time t ∷ ls) a n (suc k),
          e,
          over-early level t ls a k (omega arith),
          over-late level t ls n (k + a) (omega arith),
        )
        (arrivals_append s (pulses_at a level f) (pulses_over (suc p) f code level ls (suc (k + a)) n))

    -- ---- the whole ----

    -- the ear, at some pulse and level: what it hears of the lines that are left
    heard-over : (end : ℕ) (ls : List Line) (e : Ear) → NoneAfter end ls → heard_lines (suc p) f code end e ls
        ≡ arrivals e.sampler (pulses_over (suc p) f code e.level ls (suc e.done) (pulses_before (suc p) end - e.done))
    unfolding heard_lines NoneAfter heard_until ear_until ear_value
    heard-over end [] e h = rw (over_none e.level (pulses_before (suc p) end - e.done) (suc e.done))
    heard-over end (Value c v ∷ ls) e h =
        heard-over end ls (ear_value e c v code) h
        ∙ rw (over-value e.level c v ls (pulses_before (suc p) end - e.done) (suc e.done))
    heard-over end (Time t ∷ ls) e (h, hs) =
        let up = pulses-rise t end h in
        let a = pulses_to (suc p) t e in
        let parts : pulses_before (suc p) end - e.done ≡ a + (pulses_before (suc p) end - (e.done + a)) = omega arith in
        rw (heard-over end ls (ear_until (suc p) f t e) hs, parts)
        (sym (over-split e.sampler e.level t ls a (pulses_before (suc p) end - (e.done + a)) e.done refl))

    -- The lines of a text that a reader takes: pulse j finds the level that the wire has at the time of tick j x period.
    pub text-heard : (end : ℕ) (ls : List Line) → readable (λ (b : ℕ). true) false ls → NoneAfter end ls
        → heard_from (suc p) f code end started just_enabled (lines_text ls)
        ≡ arrivals (hunting false) (pulses_over (suc p) f code true ls 1 (pulses_before (suc p) end))
    text-heard end ls takes none =
        let z : pulses_before (suc p) end - 0 ≡ pulses_before (suc p) end = omega arith in
        by_lines (suc p) f code end started just_enabled (lines_text ls)
        ∙ ap (heard_lines (suc p) f code end just_enabled) (lines-read (λ (b : ℕ). true) ls false takes).0
        ∙ heard-over end ls just_enabled none ∙ rw z
