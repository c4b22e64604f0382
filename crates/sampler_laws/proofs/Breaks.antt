-- How long a break lasts. From the stop's sample on highs are counted down; a low puts the count back, and so any number of interrupted runs leaves the sampler
-- as the stop did. Assumes nothing.
use Prim.Native.Nat.{ℕ, zero, suc, ◌+◌, ◌-◌, ◌≤◌, ◌<◌}
use mathlib.Core.Path.{◌≡◌, refl, sym, ap, ◌∙◌}
use mathlib.Core.Bool.{Bool, true, false, and-eq-true_iff, true≢false}
use mathlib.Core.List.{List, [], ◌∷◌, ◌++◌, append-nil}
use native.Mathlib.Omega.{arith}
use native.Mathlib.Nat.{zero-add}
use lib.ListN.{length}
use borrow.Author.Tests.{ne_eqb}
use Rattle.format.specs.Pick.{pick}
use Rattle.character.specs.Character.{break_character}
use Rattle.feed.specs.declared.feed.Setting.{Setting}
use Rattle.sampler_state.specs.Assembly.{samples_of}
use Rattle.sampler_state.specs.State.{hunting, in_break, gap_of}
use Rattle.sampler_hunting.specs.Hunting.{hunted, waited}
use Rattle.sampler.specs.Sampler.{sample_of}
use Rattle.sampler.specs.Lines.{Line, hears, arrivals}
use Rattle.sampler.specs.Lines.Line.{pulse}
use Rattle.sampler_laws.specs.Sampling.{Found, lines, before_stop, character_at, all_at, all_sixteen, sample_at}
use Rattle.sampler_laws.specs.Breaks.{Broken, Unstopped, Run, runs, few, all_few, Ends, Breaks}
use Rattle.sampler_laws.specs.Breaks.Broken.{broken16, broken1}
use Rattle.sampler_laws.proofs.Laws.Samples.{samples_before_stop, after_low}
use Rattle.sampler_laws.proofs.Laws.Characters.{low_at_one, heard_sixteen, heard_break, heard_one_break}
use Rattle.sampler_laws.proofs.Laws.Stopped.{lows_fewer}
use Rattle.sampler_laws.proofs.Laws.ToldAfter.{lines_append, few_are}
use Rattle.sampler_laws.proofs.Sampling.{unfinished}

-- ---- in a break ----

highs_counted : (n : ℕ) (highs : Found) (more : List Line) → all_at true highs ≡ true → all_sixteen highs ≡ true → length highs ≤ n
    → arrivals (in_break n) (lines highs ++ more) ≡ arrivals (in_break (n - length highs)) more
unfolding arrivals hears sample_of waited pick
highs_counted n [] more a x l = let z : n - 0 ≡ n = omega arith in rw z
highs_counted n ((false, f) ∷ highs) more a x l = absurd (true≢false (sym a))
highs_counted zero ((true, f) ∷ highs) more a x l = absurd (omega arith)
highs_counted (suc n) ((true, f) ∷ highs) more a x l =
    let both = (and-eq-true_iff f.sixteen _).0 x in
    let d : suc n - 1 ≡ n = omega arith in
    let e : suc n - suc (length highs) ≡ n - length highs = omega arith in
    rw (both.0, ne_eqb (suc n) 0 (λ p. omega arith), d, highs_counted n highs more a both.1 (omega arith), e)

few_counted : (highs : Found) (more : List Line) → few highs ≡ true
    → arrivals (in_break 7) (lines highs ++ more) ≡ arrivals (in_break (7 - length highs)) more
few_counted highs more e = let x = few_are highs e in highs_counted 7 highs more x.high x.sixteen x.short

low_again : (n : ℕ) (g : Setting) (more : List Line) → arrivals (in_break n) (pulse false g ∷ more) ≡ arrivals (in_break 7) more
unfolding arrivals hears sample_of waited pick
low_again n g more = refl

runs_wait : (rs : List Run) (more : List Line) → all_few rs ≡ true → arrivals (in_break 7) (lines (runs rs) ++ more) ≡ arrivals (in_break 7) more
runs_wait [] more e = refl
runs_wait ((highs, g) ∷ rs) more e =
    let both = (and-eq-true_iff (few highs) _).0 e in
    rw (
      lines_append highs ((false, g) ∷ runs rs) more,
      few_counted highs (pulse false g ∷ lines (runs rs) ++ more) both.0,
      low_again (7 - length highs) g (lines (runs rs) ++ more),
      runs_wait rs more both.1,
    )

end_of : (highs : Found) (g : Setting) (more : List Line) → Ends highs g
    → arrivals (in_break (7 - length highs)) (pulse true g ∷ more) ≡ arrivals (hunting true) more
unfolding arrivals hears sample_of waited pick
end_of highs g more e = go g.sixteen refl
  where
    go : (b : Bool) → g.sixteen ≡ b → arrivals (in_break (7 - length highs)) (pulse true g ∷ more) ≡ arrivals (hunting true) more
    go true s = let z : length highs ≡ 7 = e s in rw (s, z)
    go false s = rw s

-- ---- the statement ----

broken : (f : Setting) (ls : Found) (more : List Line) → Broken f ls
    → arrivals (hunting true) (pulse false f ∷ lines ls ++ more) ≡ break_character ∷ arrivals (in_break 7) more
broken f ls more (broken16 x e) = heard_break f ls more x e
broken f ls more (broken1 x e) = heard_one_break f ls more x.one x.width x.end e

lasts_rule : (f : Setting) (ls : Found) (rs : List Run) (highs : Found) → Broken f ls → all_few rs ≡ true → few highs ≡ true
    → arrivals (hunting true) (pulse false f ∷ lines ls ++ (lines (runs rs) ++ lines highs)) ≡ break_character ∷ []
unfolding arrivals
lasts_rule f ls rs highs x r e =
    rw (
      broken f ls (lines (runs rs) ++ lines highs) x,
      runs_wait rs (lines highs) r,
      ← append-nil (lines highs),
      few_counted highs [] e,
    )

ends_rule : (f g : Setting) (ls : Found) (rs : List Run) (highs rest : Found) → Broken f ls → all_few rs ≡ true → few highs ≡ true → Ends highs g
    → arrivals (hunting true) (pulse false f ∷ lines ls ++ (lines (runs rs) ++ (lines highs ++ pulse true g ∷ lines rest)))
    ≡ break_character ∷ arrivals (hunting true) (lines rest)
ends_rule f g ls rs highs rest x r e end =
    rw (
      broken f ls (lines (runs rs) ++ (lines highs ++ pulse true g ∷ lines rest)) x,
      runs_wait rs (lines highs ++ pulse true g ∷ lines rest) r,
      few_counted highs (pulse true g ∷ lines rest) e,
      end_of highs g (lines rest) end,
    )

before_rule : (f : Setting) (ls : Found) → f.sixteen ≡ false → f.format.width.0 ≤ 8 → length ls < before_stop f.format + 1
    → arrivals (hunting true) (pulse false f ∷ lines ls) ≡ []
unfolding arrivals hears sample_of hunted gap_of pick
before_rule f ls x w l =
    let n : ℕ = before_stop f.format in
    let gap : gap_of f.sixteen ≡ record { 0 = 0 } = ap gap_of x in
    let all : 0 + n ≡ (samples_of f.format).0 = zero-add n ∙ sym (samples_before_stop f.format w) in
    rw (low_at_one f x, gap) (unfinished f 0 n 0 0 0 ls gap all (omega arith))

fewer_rule : (f : Setting) (ls lows : Found) → Unstopped f ls → all_at false lows ≡ true → length lows ≤ 7
    → arrivals (hunting true) (pulse false f ∷ lines ls ++ lines lows) ≡ character_at f.format (sample_at ls) ∷ []
fewer_rule f ls lows x low l =
    rw (
      heard_sixteen f ls (lines lows) x.made,
      after_low f (sample_at ls) x.made.sixteen x.low x.some,
      lows_fewer 7 lows low l,
    )

pub breaks_rule : Breaks (arrivals (hunting true))
breaks_rule = record { lasts = lasts_rule; ends = ends_rule; before = before_rule; fewer = fewer_rule }
