-- When a start is confirmed, and when break change is set. What is told of a line is one field or the other of the sampler's answer: the same laws (Laws/Told,
-- Laws/ToldAfter) give both, and so the older statement of break change too. Assumes nothing.
use Prim.Native.Nat.{◌+◌, ◌≤◌}
use mathlib.Core.Path.{◌≡◌, refl, sym}
use mathlib.Core.Bool.{Bool, true, false, true≢false}
use mathlib.Core.List.{List, [], ◌∷◌, ◌++◌, append-nil}
use native.Mathlib.Nat.{suc-add}
use lib.ListN.{length, replicate}
use Rattle.format.specs.Pick.{pick}
use Rattle.feed.specs.declared.feed.Setting.{Setting}
use Rattle.sampler_state.specs.declared.state.Sampler.{Sampler}
use Rattle.sampler_state.specs.State.{hunting, after_low_stop, in_break}
use Rattle.sampler_hunting.specs.declared.hunting.Sampled.{Sampled}
use Rattle.sampler_hunting.specs.Hunting.{still, hunted}
use Rattle.sampler.specs.Sampler.{sample_of}
use Rattle.sampler.specs.Lines.{Line, hears}
use Rattle.sampler.specs.Lines.Line.{pulse, enable, disable}
use Rattle.sampler_laws.specs.Sampling.{Found, lines, level_at, before_stop, all_at, sample_at, told_from, flags_from}
use Rattle.sampler_laws.specs.Breaks.{all_low_one, Broken, Stopped, Unstopped, Run, runs, few, all_few, Ends}
use Rattle.sampler_laws.specs.Breaks.Broken.{broken16, broken1}
use Rattle.sampler_laws.specs.Breaks.Stopped.{stopped16, stopped1}
use Rattle.sampler_laws.specs.Confirms.{told_of, Tells, Confirms, Changes, starts_from}
use Rattle.sampler_laws.proofs.Laws.Samples.{after_samples, after_high, after_low, after_low_one, after_break, all_low_lem}
use Rattle.sampler_laws.proofs.Laws.Told.{Reading, quiet, unconfirmed, hunts-again, begun-sixteen, begun-one, heard_sixteen, heard_one}
use Rattle.sampler_laws.proofs.Laws.ToldAfter.{lows_fewer, lows_again, lows_until, next_low, break-few, break-runs, break-end}

module _ (q : Sampled → Bool) (start change : Bool) (h : Reading q start change) where
  abbrev idle : List Line → List Bool
  idle xs = told_from q (hunting true) xs

  abbrev enabled : List Line → List Bool
  enabled xs = told_from q (hunting false) xs

  high_rule : (f : Setting) (rest : Found) → idle (pulse true f ∷ lines rest) ≡ false ∷ idle (lines rest)
  unfolding hears sample_of hunted pick
  high_rule f rest = rw (h.of_still (hunting true))

  -- after a 1X stop that is no break's, high or low
  after_one : (f : Setting) (ls rest : Found) → f.sixteen ≡ false → all_low_one f ls ≡ false
      → told_from q (after_samples f (level_at ls)) (lines rest) ≡ idle (lines rest)
  after_one f ls rest x some = go (level_at ls (before_stop f.format)) refl
    where
      go : (b : Bool) → level_at ls (before_stop f.format) ≡ b → told_from q (after_samples f (level_at ls)) (lines rest) ≡ idle (lines rest)
      go true e = rw (after_high f (level_at ls) e)
      go false e = rw (after_low_one f (level_at ls) x e some) (next_low q start change h rest)

  stopped-rule : (f : Setting) (ls rest : Found) → Stopped f ls → idle (pulse false f ∷ lines ls ++ lines rest) ≡ told_of start false f ++ idle (lines rest)
  unfolding pick
  stopped-rule f ls rest (stopped16 x e) = rw (heard_sixteen q start change h f ls (lines rest) x, all_low_lem (sample_at ls) _ true e, after_high f (sample_at ls) e)
  stopped-rule f ls rest (stopped1 x e) = rw (heard_one q start change h f ls (lines rest) x, e, after_one f ls rest x.one e)

  -- a low stop that is no break's, and what follows it
  unstopped : (f : Setting) (ls : Found) (more : List Line) → Unstopped f ls
      → idle (pulse false f ∷ lines ls ++ more) ≡ told_of start false f ++ told_from q (after_low_stop 7) more
  unfolding pick
  unstopped f ls more x =
      rw (heard_sixteen q start change h f ls more x.made, x.some, after_low f (sample_at ls) x.made.sixteen x.low x.some)

  fewer_rule : (f : Setting) (ls lows : Found) → Unstopped f ls → all_at false lows ≡ true → length lows ≤ 7
      → idle (pulse false f ∷ lines ls ++ lines lows) ≡ told_of start false f ++ replicate (length lows) false
  fewer_rule f ls lows x low l = rw (unstopped f ls (lines lows) x, lows_fewer q start change h 7 lows low l)

  again_rule : (f g : Setting) (ls lows rest : Found) → Unstopped f ls → all_at false lows ≡ true → length lows ≡ 7
      → idle (pulse false f ∷ lines ls ++ (lines lows ++ pulse false g ∷ lines rest))
      ≡ told_of start false f ++ (replicate 7 false ++ idle (pulse false g ∷ lines rest))
  again_rule f g ls lows rest x low l =
      rw (unstopped f ls (lines lows ++ pulse false g ∷ lines rest) x, lows_again q start change h 7 g lows (lines rest) low l)

  until_rule : (f g : Setting) (ls lows rest : Found) → Unstopped f ls → all_at false lows ≡ true → length lows ≤ 7
      → idle (pulse false f ∷ lines ls ++ (lines lows ++ pulse true g ∷ lines rest))
      ≡ told_of start false f ++ (replicate (length lows + 1) false ++ idle (lines rest))
  until_rule f g ls lows rest x low l =
      rw (unstopped f ls (lines lows ++ pulse true g ∷ lines rest) x, lows_until q start change h 7 g lows (lines rest) low l)

  -- a break, and what follows it
  broken : (f : Setting) (ls : Found) (more : List Line) → Broken f ls
      → idle (pulse false f ∷ lines ls ++ more) ≡ told_of start change f ++ told_from q (in_break 7) more
  unfolding pick
  broken f ls more (broken16 x e) = rw (heard_sixteen q start change h f ls more x, e, after_break f (sample_at ls) e)
  broken f ls more (broken1 x e) = rw (heard_one q start change h f ls more x, e, after_break f (level_at ls) e)

  lasts_rule : (f : Setting) (ls : Found) (rs : List Run) (highs : Found) → Broken f ls → all_few rs ≡ true → few highs ≡ true
      → idle (pulse false f ∷ lines ls ++ (lines (runs rs) ++ lines highs))
      ≡ told_of start change f ++ replicate (length (runs rs) + length highs) false
  lasts_rule f ls rs highs x r e =
      rw (
        broken f ls (lines (runs rs) ++ lines highs) x,
        break-runs q start change h rs (lines highs) r,
        ← append-nil (lines highs),
        break-few q start change h highs [] e,
        quiet (length (runs rs)) (length highs) [],
        append-nil (replicate (length (runs rs) + length highs) false),
      )

  ends_rule : (f g : Setting) (ls : Found) (rs : List Run) (highs rest : Found) → Broken f ls → all_few rs ≡ true → few highs ≡ true → Ends highs g
      → idle (pulse false f ∷ lines ls ++ (lines (runs rs) ++ (lines highs ++ pulse true g ∷ lines rest)))
      ≡ told_of start change f ++ (replicate (length (runs rs) + length highs) false ++ change ∷ idle (lines rest))
  ends_rule f g ls rs highs rest x r e end =
      rw (
        broken f ls (lines (runs rs) ++ (lines highs ++ pulse true g ∷ lines rest)) x,
        break-runs q start change h rs (lines highs ++ pulse true g ∷ lines rest) r,
        break-few q start change h highs (pulse true g ∷ lines rest) e,
        break-end q start change h highs g (lines rest) e end,
        quiet (length (runs rs)) (length highs) (change ∷ idle (lines rest)),
      )

  -- ---- one that was just enabled ----

  lows-rule : (lows : Found) → all_at false lows ≡ true → enabled (lines lows) ≡ replicate (length lows) false
  unfolding hears sample_of hunted pick
  lows-rule [] a = refl
  lows-rule ((true, f) ∷ lows) a = absurd (true≢false (sym a))
  lows-rule ((false, f) ∷ lows) a = rw (h.of_still (hunting false), lows-rule lows a)

  waits_rule : (g : Setting) (lows rest : Found) → all_at false lows ≡ true
      → enabled (lines lows ++ pulse true g ∷ lines rest) ≡ replicate (length lows + 1) false ++ idle (lines rest)
  unfolding hears sample_of hunted pick
  waits_rule g [] rest a = rw (h.of_still (hunting true))
  waits_rule g ((true, f) ∷ lows) rest a = absurd (true≢false (sym a))
  waits_rule g ((false, f) ∷ lows) rest a = rw (h.of_still (hunting false), waits_rule g lows rest a, suc-add (length lows) 1)

  -- a line that leaves every sampler as one that was just enabled
  parted : (x : Line) → ((s : Sampler) → hears s x ≡ still (hunting false)) → (s : Sampler) (xs ys : List Line)
      → told_from q s (xs ++ x ∷ ys) ≡ told_from q s xs ++ false ∷ enabled ys
  parted x e s [] ys = rw (e s, h.of_still (hunting false))
  parted x e s (y ∷ xs) ys = rw (parted x e (hears s y).next xs ys)

  drops_rule : (xs ys : List Line) → enabled (xs ++ disable ∷ ys) ≡ enabled xs ++ false ∷ enabled ys
  unfolding hears
  drops_rule = parted disable (λ s. refl) (hunting false)

  enables_rule : (xs ys : List Line) → enabled (xs ++ enable ∷ ys) ≡ enabled xs ++ false ∷ enabled ys
  unfolding hears
  enables_rule = parted enable (λ s. refl) (hunting false)

  told-rule : Tells start change (told_from q (hunting true)) (told_from q (hunting false))
  told-rule = record {
    end = refl;
    high = high_rule;
    early = unconfirmed q start change h;
    none = hunts-again q start change h;
    sixteen = begun-sixteen q start change h;
    one = begun-one q start change h;
    stopped = stopped-rule;
    fewer = fewer_rule;
    again = again_rule;
    until = until_rule;
    lasts = lasts_rule;
    ends = ends_rule;
    lows = lows-rule;
    waits = waits_rule;
    drops = drops_rule;
    enables = enables_rule;
  }

-- ---- the two that are told ----

pub of_starts : Reading (λ (x : Sampled). x.started) true false
of_starts = record { of_still = λ s. refl; of_arrived = λ f v stop. refl; of_confirmed = λ f. refl; of_broke = refl; of_ended = refl }

pub of_changes : Reading (λ (x : Sampled). x.change) false true
of_changes = record { of_still = λ s. refl; of_arrived = λ f v stop. refl; of_confirmed = λ f. refl; of_broke = refl; of_ended = refl }

pub confirms_rule : Confirms (starts_from (hunting true)) (starts_from (hunting false))
confirms_rule = told-rule (λ (x : Sampled). x.started) true false of_starts

pub changes_rule : Changes (flags_from (hunting true)) (flags_from (hunting false))
changes_rule = told-rule (λ (x : Sampled). x.change) false true of_changes
