-- Break change, as it was said first: it follows from what is told of every line (Confirms), whoever tells it. Lows in a break are runs of no highs. Assumes
-- nothing.
use Prim.Native.Nat.{ℕ, ◌+◌, ◌*◌, ◌≤◌}
use mathlib.Core.Path.{◌≡◌, refl, sym, ap, ◌∙◌}
use mathlib.Core.Bool.{Bool, true, false, true≢false}
use mathlib.Core.List.{List, [], ◌∷◌, ◌++◌, append_assoc, append-nil, map}
use native.Mathlib.Omega.{arith}
use lib.Dec.{eqb}
use lib.ListN.{length, replicate, replicate-append-replicate}
use Rattle.format.specs.Pick.{pick}
use Rattle.format.specs.Digits.{value_of}
use Rattle.feed.specs.declared.feed.Setting.{Setting}
use Rattle.sampler_state.specs.State.{hunting}
use Rattle.sampler.specs.Lines.Line.{pulse}
use Rattle.sampler_laws.specs.Sampling.{Found, lines, level_at, samples, before_stop, all_at, all_sixteen}
use Rattle.sampler_laws.specs.Sampling.{Sixteen, stop_at, all_low, Flags, BreakChange, flags_from}
use Rattle.sampler_laws.specs.Breaks.{Run, runs, few, all_few}
use Rattle.sampler_laws.specs.Breaks.Broken.{broken16, broken1}
use Rattle.sampler_laws.specs.Breaks.Stopped.{stopped16}
use Rattle.sampler_laws.specs.Confirms.{told_of, Changes}
use Rattle.sampler_laws.proofs.Laws.Told.{quiet}
use Rattle.sampler_laws.proofs.Confirms.{changes_rule}

-- ---- the same lists, written otherwise ----

told_sixteen : (f : Setting) (ls : Found) (stop : Bool) → Sixteen f ls → told_of false stop f ≡ replicate (length ls) false ++ stop ∷ []
unfolding pick
told_sixteen f ls stop x =
    let n : ℕ = before_stop f.format in
    let all : length ls ≡ 9 + (15 + 16 * n) = x.end ∙ omega arith in
    rw (x.sixteen, all) (quiet 9 (15 + 16 * n) (stop ∷ []))

told_one : (f : Setting) (ls : Found) → f.sixteen ≡ false → length ls ≡ before_stop f.format + 1
    → told_of false true f ≡ replicate (length ls) false ++ true ∷ []
unfolding pick
told_one f ls x l =
    let all : length ls ≡ 1 + before_stop f.format = l ∙ omega arith in
    rw (x, all) (quiet 1 (before_stop f.format) (true ∷ []))

abbrev as_runs : Found → List Run
as_runs lows = map (λ (x : Bool × Setting). ([], x.1)) lows

runs_low : (lows : Found) → all_at false lows ≡ true → runs (as_runs lows) ≡ lows
runs_low [] a = refl
runs_low ((true, f) ∷ lows) a = absurd (true≢false (sym a))
runs_low ((false, f) ∷ lows) a = rw (runs_low lows a)

runs_few : (lows : Found) → all_few (as_runs lows) ≡ true
runs_few [] = refl
runs_few (x ∷ lows) = runs_few lows

few_seven : (highs : Found) → all_at true highs ≡ true → all_sixteen highs ≡ true → length highs ≡ 7 → few highs ≡ true
few_seven highs a x l = rw (a, x, l)

joined : (a b : ℕ) → (replicate a false ++ true ∷ []) ++ (replicate b false ++ true ∷ []) ≡ replicate a false ++ true ∷ replicate b false ++ true ∷ []
joined a b =
    append_assoc (replicate a false) (true ∷ []) (replicate b false ++ true ∷ [])
    ∙ sym (append_assoc (replicate a false) (true ∷ replicate b false) (true ∷ []))

-- ---- the statement ----

module _ (idle enabled : Flags) (h : Changes idle enabled) where
  character-rule : (f : Setting) (ls : Found) → Sixteen f ls → all_low f ls ≡ false → idle (pulse false f ∷ lines ls) ≡ replicate (1 + length ls) false
  character-rule f ls x some =
      let all : 1 + length ls ≡ length ls + 1 = omega arith in
      ap idle (sym (append-nil (pulse false f ∷ lines ls)))
      ∙ go (stop_at f ls) refl
      ∙ rw (append-nil (told_of false false f), told_sixteen f ls false x, all) (replicate-append-replicate (length ls) 1 false)
    where
      go : (stop : Bool) → stop_at f ls ≡ stop → idle (pulse false f ∷ lines ls ++ []) ≡ told_of false false f ++ []
      go true e = h.stopped f ls [] (stopped16 x e) ∙ ap (λ (l : List Bool). told_of false false f ++ l) h.end
      go false e = h.fewer f ls [] (record { made = x; low = e; some = some }) refl (omega arith)

  sixteen_rule : (f g : Setting) (ls lows highs : Found) → Sixteen f ls → all_low f ls ≡ true → all_at false lows ≡ true → all_at true highs ≡ true
      → all_sixteen highs ≡ true → length highs ≡ 7 → g.sixteen ≡ true
      → idle (pulse false f ∷ lines ls ++ lines lows ++ lines highs ++ pulse true g ∷ [])
      ≡ replicate (length ls) false ++ true ∷ replicate (length lows + 7) false ++ true ∷ []
  sixteen_rule f g ls lows highs x all low high sixteen l e =
      let ended = h.ends f g ls (as_runs lows) highs [] (broken16 x all) (runs_few lows) (few_seven highs high sixteen l) (λ s. l) in
      ap idle
      (append_assoc ((pulse false f ∷ lines ls) ++ lines lows) (lines highs) (pulse true g ∷ [])
      ∙ append_assoc (pulse false f ∷ lines ls) (lines lows) (lines highs ++ pulse true g ∷ []))
      ∙ rw (runs_low lows low, told_sixteen f ls true x, h.end, l) at ended
      ∙ joined (length ls) (length lows + 7)

  one_rule : (f g : Setting) (ls lows : Found) → f.sixteen ≡ false → f.format.width.0 ≤ 8 → length ls ≡ before_stop f.format + 1
      → eqb (value_of (samples (level_at ls) (before_stop f.format + 1))) 0 ≡ true → all_at false lows ≡ true → g.sixteen ≡ false
      → idle (pulse false f ∷ lines ls ++ lines lows ++ pulse true g ∷ [])
      ≡ replicate (length ls) false ++ true ∷ replicate (length lows) false ++ true ∷ []
  one_rule f g ls lows x w l all low e =
      let broken = broken1 (record { one = x; width = w; end = l }) all in
      let ended = h.ends f g ls (as_runs lows) [] [] broken (runs_few lows) refl (λ s. absurd (true≢false (sym s ∙ e))) in
      let n : length lows + 0 ≡ length lows = omega arith in
      ap idle (append_assoc (pulse false f ∷ lines ls) (lines lows) (pulse true g ∷ []))
      ∙ rw (runs_low lows low, told_one f ls x l, h.end, n) at ended
      ∙ joined (length ls) (length lows)

  pub changes-then : BreakChange idle
  changes-then = record { character = character-rule; sixteen = sixteen_rule; one = one_rule }

pub break_change_rule : BreakChange (flags_from (hunting true))
break_change_rule = changes-then (flags_from (hunting true)) (flags_from (hunting false)) changes_rule
