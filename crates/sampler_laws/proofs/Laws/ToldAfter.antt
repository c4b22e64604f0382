-- What is told after a stop: lows are counted down to the one that is p, and in a break highs, one pulse at a time, until a low puts the count back or one
-- of them ends it. Assumes nothing.
use Prim.Native.Nat.{ℕ, zero, suc, ◌+◌, ◌-◌, ◌≤◌}
use mathlib.Core.Path.{◌≡◌, refl, sym}
use mathlib.Core.Bool.{Bool, true, false, and-eq-true_iff, true≢false}
use mathlib.Core.List.{List, [], ◌∷◌, ◌++◌}
use native.Mathlib.Omega.{arith}
use native.Mathlib.Nat.{suc-add}
use lib.ListN.{length, length-append, replicate}
use borrow.Author.Tests.{ltb-true, ne_eqb}
use Rattle.format.specs.Pick.{pick}
use Rattle.feed.specs.declared.feed.Setting.{Setting}
use Rattle.sampler_state.specs.State.{hunting, after_low_stop, in_break}
use Rattle.sampler_hunting.specs.declared.hunting.Sampled.{Sampled}
use Rattle.sampler_hunting.specs.Hunting.{hunted, followed, waited}
use Rattle.sampler.specs.Sampler.{sample_of}
use Rattle.sampler.specs.Lines.{Line, hears}
use Rattle.sampler.specs.Lines.Line.{pulse}
use Rattle.sampler_laws.specs.Sampling.{Found, lines, all_at, all_sixteen, told_from}
use Rattle.sampler_laws.specs.Breaks.{Run, runs, few, all_few, Ends}
use Rattle.sampler_laws.proofs.Laws.Told.{Reading, quiet}

-- ---- runs of highs ----

pub lines_append : (a b : Found) (more : List Line) → lines (a ++ b) ++ more ≡ lines a ++ (lines b ++ more)
lines_append [] b more = refl
lines_append (x ∷ a) b more = rw (lines_append a b more)

pub record Few (highs : Found) : Type 0 where
  pub high : all_at true highs ≡ true
  pub sixteen : all_sixteen highs ≡ true
  pub short : length highs ≤ 7

pub few_are : (highs : Found) → few highs ≡ true → Few highs
few_are highs e =
    let a = (and-eq-true_iff (all_at true highs) _).0 e in
    let b = (and-eq-true_iff (all_sixteen highs) _).0 a.1 in
    let l = ltb-true (length highs) 8 b.1 in
    record { high = a.0; sixteen = b.0; short = omega arith }

module _ (q : Sampled → Bool) (start change : Bool) (h : Reading q start change) where
  -- ---- after a low stop ----

  pub lows_fewer : (n : ℕ) (lows : Found) → all_at false lows ≡ true → length lows ≤ n
      → told_from q (after_low_stop n) (lines lows) ≡ replicate (length lows) false
  unfolding hears sample_of followed pick
  lows_fewer n [] a l = refl
  lows_fewer n ((true, f) ∷ lows) a l = absurd (true≢false (sym a))
  lows_fewer zero ((false, f) ∷ lows) a l = absurd (omega arith)
  lows_fewer (suc n) ((false, f) ∷ lows) a l =
      let d : suc n - 1 ≡ n = omega arith in
      rw (ne_eqb (suc n) 0 (λ e. omega arith), d, h.of_still (after_low_stop n), lows_fewer n lows a (omega arith))

  pub lows_again : (n : ℕ) (g : Setting) (lows : Found) (more : List Line) → all_at false lows ≡ true → length lows ≡ n
      → told_from q (after_low_stop n) (lines lows ++ pulse false g ∷ more) ≡ replicate n false ++ told_from q (hunting true) (pulse false g ∷ more)
  unfolding hears sample_of hunted followed pick
  lows_again zero g [] more a l = refl
  lows_again (suc n) g [] more a l = absurd (omega arith)
  lows_again n g ((true, f) ∷ lows) more a l = absurd (true≢false (sym a))
  lows_again zero g ((false, f) ∷ lows) more a l = absurd (omega arith)
  lows_again (suc n) g ((false, f) ∷ lows) more a l =
      let d : suc n - 1 ≡ n = omega arith in
      rw (ne_eqb (suc n) 0 (λ e. omega arith), d, h.of_still (after_low_stop n), lows_again n g lows more a (omega arith))

  pub lows_until : (n : ℕ) (g : Setting) (lows : Found) (more : List Line) → all_at false lows ≡ true → length lows ≤ n
      → told_from q (after_low_stop n) (lines lows ++ pulse true g ∷ more) ≡ replicate (length lows + 1) false ++ told_from q (hunting true) more
  unfolding hears sample_of followed pick
  lows_until n g [] more a l = rw (h.of_still (hunting true))
  lows_until n g ((true, f) ∷ lows) more a l = absurd (true≢false (sym a))
  lows_until zero g ((false, f) ∷ lows) more a l = absurd (omega arith)
  lows_until (suc n) g ((false, f) ∷ lows) more a l =
      let d : suc n - 1 ≡ n = omega arith in
      rw (ne_eqb (suc n) 0 (λ e. omega arith), d, h.of_still (after_low_stop n), lows_until n g lows more a (omega arith), suc-add (length lows) 1)

  -- at 1X the next low is a start, as after a high
  pub next_low : (rest : Found) → told_from q (after_low_stop 0) (lines rest) ≡ told_from q (hunting true) (lines rest)
  unfolding hears sample_of hunted followed pick
  next_low [] = refl
  next_low ((true, f) ∷ rest) = refl
  next_low ((false, f) ∷ rest) = refl

  -- ---- in a break ----

  break_highs : (n : ℕ) (highs : Found) (more : List Line) → all_at true highs ≡ true → all_sixteen highs ≡ true → length highs ≤ n
      → told_from q (in_break n) (lines highs ++ more) ≡ replicate (length highs) false ++ told_from q (in_break (n - length highs)) more
  unfolding hears sample_of waited pick
  break_highs n [] more a x l = let z : n - 0 ≡ n = omega arith in rw z
  break_highs n ((false, f) ∷ highs) more a x l = absurd (true≢false (sym a))
  break_highs zero ((true, f) ∷ highs) more a x l = absurd (omega arith)
  break_highs (suc n) ((true, f) ∷ highs) more a x l =
      let both = (and-eq-true_iff f.sixteen _).0 x in
      let d : suc n - 1 ≡ n = omega arith in
      let e : suc n - suc (length highs) ≡ n - length highs = omega arith in
      rw (both.0, ne_eqb (suc n) 0 (λ p. omega arith), d, h.of_still (in_break n), break_highs n highs more a both.1 (omega arith), e)

  break-low : (n : ℕ) (g : Setting) (more : List Line) → told_from q (in_break n) (pulse false g ∷ more) ≡ false ∷ told_from q (in_break 7) more
  unfolding hears sample_of waited pick
  break-low n g more = rw (h.of_still (in_break 7))

  pub break-few : (highs : Found) (more : List Line) → few highs ≡ true
      → told_from q (in_break 7) (lines highs ++ more) ≡ replicate (length highs) false ++ told_from q (in_break (7 - length highs)) more
  break-few highs more e = let x = few_are highs e in break_highs 7 highs more x.high x.sixteen x.short

  pub break-runs : (rs : List Run) (more : List Line) → all_few rs ≡ true
      → told_from q (in_break 7) (lines (runs rs) ++ more) ≡ replicate (length (runs rs)) false ++ told_from q (in_break 7) more
  break-runs [] more e = refl
  break-runs ((highs, g) ∷ rs) more e =
      let both = (and-eq-true_iff (few highs) _).0 e in
      rw (
        lines_append highs ((false, g) ∷ runs rs) more,
        break-few highs (pulse false g ∷ lines (runs rs) ++ more) both.0,
        break-low (7 - length highs) g (lines (runs rs) ++ more),
        break-runs rs more both.1,
        length-append highs ((false, g) ∷ runs rs),
      )
      (quiet (length highs) (suc (length (runs rs))) _)

  -- the high that ends it
  pub break-end : (highs : Found) (g : Setting) (more : List Line) → few highs ≡ true → Ends highs g
      → told_from q (in_break (7 - length highs)) (pulse true g ∷ more) ≡ change ∷ told_from q (hunting true) more
  unfolding hears sample_of waited pick
  break-end highs g more x e = go g.sixteen refl
    where
      go : (b : Bool) → g.sixteen ≡ b → told_from q (in_break (7 - length highs)) (pulse true g ∷ more) ≡ change ∷ told_from q (hunting true) more
      go true s = let z : length highs ≡ 7 = e s in rw (s, z, h.of_ended)
      go false s = rw (s, h.of_ended)
