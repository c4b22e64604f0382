-- What is told of each line, where nothing is told of a line that the sampler stays quiet at. A character is gone through sample by sample, as in
-- Laws/Characters, and what follows its stop by the sampler that the stop leaves, as in Laws/Stopped. Assumes nothing.
use Prim.Native.Nat.{ℕ, zero, suc, ◌+◌, ◌-◌, ◌*◌, ◌^◌, ◌≤◌, ◌<◌}
use mathlib.Core.Path.{◌≡◌, refl, sym, ap, ◌∙◌}
use mathlib.Core.Bool.{Bool, true, false}
use mathlib.Core.List.{List, [], ◌∷◌, ◌++◌, append_assoc, append-nil}
use native.Mathlib.Omega.{arith}
use native.Mathlib.Nat.{zero-mul, add-zero, zero-add, mul-suc}
use lib.Dec.{eqb}
use lib.ListN.{length, drop, length-drop, drop_of_length-le, replicate, replicate-append-replicate}
use borrow.Author.Tests.{lt-ltb, le-ltb, ne_eqb}
use Rattle.format.specs.Pick.{pick}
use Rattle.format.specs.Digits.{value_of}
use Rattle.feed.specs.declared.feed.Setting.{Setting}
use Rattle.sampler_state.specs.declared.state.Sampler.{Sampler}
use Rattle.sampler_state.specs.Assembly.{samples_of, with_sample}
use Rattle.sampler_state.specs.State.{hunting, starting, assembling, gap_of}
use Rattle.sampler_state.proofs.Laws.Assembly.{with_sample_small}
use Rattle.sampler_hunting.specs.declared.hunting.Sampled.{Sampled}
use Rattle.sampler_hunting.specs.Hunting.{still, confirmed, ended, hunted, looked_again}
use Rattle.sampler.specs.Sampler.{broke, arrived, finished, sampled, assembled, sample_of}
use Rattle.sampler.specs.Lines.{Line, hears}
use Rattle.sampler.specs.Lines.Line.{pulse}
use Rattle.sampler.proofs.Laws.Heard.{put_in}
use Rattle.sampler_laws.specs.Sampling.{Found, lines, level_at, samples, before_stop}
use Rattle.sampler_laws.specs.Sampling.{Sixteen, sample_at, all_low, told_from}
use Rattle.sampler_laws.specs.Breaks.{One, all_low_one}
use Rattle.sampler_laws.specs.Confirms.{told_of}
use Rattle.sampler_laws.proofs.Laws.Samples.{samples_before_stop, all_low_lem, after_samples}
use Rattle.sampler_laws.proofs.Laws.Characters.{level_dropped, low_at_sixteen, low_at_one}

-- nothing of a line that the sampler stays quiet at, or of an arrival that is no break; `start` of a confirmed start, `change` of a break and its end
pub record Reading (q : Sampled → Bool) (start change : Bool) : Type 0 where
  pub of_still : (s : Sampler) → q (still s) ≡ false
  pub of_arrived : (f : Setting) (v : ℕ) (stop : Bool) → q (arrived f v stop) ≡ false
  pub of_confirmed : (f : Setting) → q (confirmed f) ≡ start
  pub of_broke : q broke ≡ change
  pub of_ended : q ended ≡ change

-- some of which nothing is told, and some more
pub quiet : (a b : ℕ) (more : List Bool) → replicate a false ++ (replicate b false ++ more) ≡ replicate (a + b) false ++ more
quiet a b more = rw (← append_assoc, replicate-append-replicate a b false)

module _ (q : Sampled → Bool) (start change : Bool) (h : Reading q start change) where
  -- ---- the pulse that is looked at ----

  confirming : (f : Setting) (n : ℕ) (ls : Found) (more : List Line) → n < length ls
      → told_from q (starting f (record { 0 = n })) (lines ls ++ more)
      ≡ replicate n false ++ q (looked_again (starting f (record { 0 = 0 })) (level_at ls n))
      ∷ told_from q (looked_again (starting f (record { 0 = 0 })) (level_at ls n)).next (lines (drop (suc n) ls) ++ more)
  unfolding hears sample_of looked_again pick
  confirming f n [] more l = absurd (omega arith)
  confirming f zero ((true, g) ∷ ls) more l = refl
  confirming f zero ((false, g) ∷ ls) more l = refl
  confirming f (suc n) (x ∷ ls) more l =
      let d : suc n - 1 ≡ n = omega arith in
      rw (ne_eqb (suc n) 0 (λ e. omega arith), d, h.of_still (starting f (record { 0 = n })), confirming f n ls more (omega arith))

  -- too few to look at it
  early : (f : Setting) (n : ℕ) (ls : Found) → length ls ≤ n
      → told_from q (starting f (record { 0 = n })) (lines ls) ≡ replicate (length ls) false
  unfolding hears sample_of looked_again pick
  early f n [] l = refl
  early f zero (x ∷ ls) l = absurd (omega arith)
  early f (suc n) (x ∷ ls) l =
      let d : suc n - 1 ≡ n = omega arith in
      rw (ne_eqb (suc n) 0 (λ e. omega arith), d, h.of_still (starting f (record { 0 = n })), early f n ls (omega arith))

  reaching : (f : Setting) (n k v : ℕ) (ls : Found) (more : List Line) → n < length ls
      → told_from q (assembling f (record { 0 = n }) (record { 0 = k }) v) (lines ls ++ more)
      ≡ replicate n false ++ q (sampled (assembling f (record { 0 = 0 }) (record { 0 = k }) v) (level_at ls n))
      ∷ told_from q (sampled (assembling f (record { 0 = 0 }) (record { 0 = k }) v) (level_at ls n)).next (lines (drop (suc n) ls) ++ more)
  unfolding hears sample_of assembled pick
  reaching f n k v [] more l = absurd (omega arith)
  reaching f zero k v (x ∷ ls) more l = refl
  reaching f (suc n) k v (x ∷ ls) more l =
      let d : suc n - 1 ≡ n = omega arith in
      rw (
        ne_eqb (suc n) 0 (λ e. omega arith),
        d,
        h.of_still (assembling f (record { 0 = n }) (record { 0 = k }) v),
        reaching f n k v ls more (omega arith),
      )

  -- ---- a character, sample by sample ----

  -- with so many samples still to come before the stop's, and so many pulses before the next one
  unfinished : (f : Setting) (g m n k v : ℕ) (ls : Found) → gap_of f.sixteen ≡ record { 0 = g } → k + m ≡ (samples_of f.format).0
      → length ls ≤ n + suc g * m → told_from q (assembling f (record { 0 = n }) (record { 0 = k }) v) (lines ls) ≡ replicate (length ls) false
  unfolding hears sample_of assembled sampled pick
  unfinished f g m n k v [] e many l = refl
  unfinished f g zero zero k v (x ∷ ls) e many l = absurd (omega arith)
  unfinished f g (suc m) zero k v (x ∷ ls) e many l =
      let more : suc g * suc m ≡ suc (g + suc g * m) = rw (mul-suc (suc g) m) (omega arith) in
      rw (
        lt-ltb k (samples_of f.format).0 (omega arith),
        e,
        h.of_still (assembling f (record { 0 = g }) (record { 0 = k + 1 }) (with_sample v k x.0)),
        unfinished f g m g (k + 1) (with_sample v k x.0) ls e (omega arith) (omega arith),
      )
  unfinished f g m (suc n) k v (x ∷ ls) e many l =
      let d : suc n - 1 ≡ n = omega arith in
      rw (
        ne_eqb (suc n) 0 (λ p. omega arith),
        d,
        h.of_still (assembling f (record { 0 = n }) (record { 0 = k }) v),
        unfinished f g m n k v ls e many (omega arith),
      )

  gathering : (f : Setting) (g m k v : ℕ) (ls : Found) (more : List Line) (s : ℕ → Bool) → gap_of f.sixteen ≡ record { 0 = g } → v < 2 ^ k
      → k + m ≡ (samples_of f.format).0 → length ls ≡ suc g * suc m → ((i : ℕ) → level_at ls (g + suc g * i) ≡ s i)
      → told_from q (assembling f (record { 0 = g }) (record { 0 = k }) v) (lines ls ++ more)
      ≡ replicate (g + suc g * m) false ++ q (finished f (v + value_of (samples s m) * 2 ^ k) (s m))
      ∷ told_from q (finished f (v + value_of (samples s m) * 2 ^ k) (s m)).next more
  unfolding sampled value_of pick
  gathering f g zero k v ls more s e small many l level =
      let first : level_at ls g ≡ s 0 = ap (level_at ls) (omega arith) ∙ level 0 in
      let none : drop (suc g) ls ≡ [] = drop_of_length-le ls {i = suc g} (omega arith) in
      let z : v + 0 * 2 ^ k ≡ v = rw (zero-mul (2 ^ k)) (add-zero v) in
      let y : g + suc g * 0 ≡ g = omega arith in
      rw (reaching f g k v ls more (omega arith), le-ltb k (samples_of f.format).0 (omega arith), first, none, z, y)
  gathering f g (suc m) k v ls more s e small many l level =
      let first : level_at ls g ≡ s 0 = ap (level_at ls) (omega arith) ∙ level 0 in
      let rest : length (drop (suc g) ls) ≡ suc g * suc m = length-drop (suc g) ls ∙ rw (l, mul-suc (suc g) (suc m)) (omega arith) in
      let all : g + suc g * suc m ≡ g + suc (g + suc g * m) = rw (mul-suc (suc g) m) (omega arith) in
      rw (
        reaching f g k v ls more (omega arith),
        lt-ltb k (samples_of f.format).0 (omega arith),
        first,
        e,
        h.of_still (assembling f (record { 0 = g }) (record { 0 = k + 1 }) (with_sample v k (s 0))),
        ← put_in (s 0) k v _ small,
        gathering f g m (k + 1) (with_sample v k (s 0)) (drop (suc g) ls) more (λ (i : ℕ). s (suc i)) e (with_sample_small v k (s 0)) (omega arith) rest
            (λ i. level_dropped (suc g) ls (g + suc g * i) ∙ ap (level_at ls) (rw (mul-suc (suc g) i) (omega arith)) ∙ level (suc i)),
        all,
      )
      (quiet g (suc (g + suc g * m)) _)

  -- the stop's sample: a break, or not
  stop-told : (f : Setting) (s : ℕ → Bool) (n : ℕ)
      → q (finished f (value_of (samples s n)) (s n)) ≡ pick (eqb (value_of (samples s (n + 1))) 0) change false
  unfolding finished pick
  stop-told f s n = go (s n) refl
    where
      low : (t : Bool) (v : ℕ) → q (pick t broke (arrived f v false)) ≡ pick t change false
      low true v = h.of_broke
      low false v = h.of_arrived f v false

      go : (stop : Bool) → s n ≡ stop → q (finished f (value_of (samples s n)) stop) ≡ pick (eqb (value_of (samples s (n + 1))) 0) change false
      go true e = rw (all_low_lem s n true e) (h.of_arrived f (value_of (samples s n)) true)
      go false e = rw (all_low_lem s n false e) (low (eqb (value_of (samples s n)) 0) (value_of (samples s n)))

  whole : (f : Setting) (g : ℕ) (ls : Found) (more : List Line) (s : ℕ → Bool) → gap_of f.sixteen ≡ record { 0 = g } → f.format.width.0 ≤ 8
      → length ls ≡ suc g * suc (before_stop f.format) → ((i : ℕ) → level_at ls (g + suc g * i) ≡ s i)
      → told_from q (assembling f (record { 0 = g }) (record { 0 = 0 }) 0) (lines ls ++ more)
      ≡ replicate (g + suc g * before_stop f.format) false ++ pick (eqb (value_of (samples s (before_stop f.format + 1))) 0) change false
      ∷ told_from q (after_samples f s) more
  whole f g ls more s e w l level =
      let n : ℕ = before_stop f.format in
      let v : 0 + value_of (samples s n) * 2 ^ 0 ≡ value_of (samples s n) = omega arith in
      let many : 0 + n ≡ (samples_of f.format).0 = zero-add n ∙ sym (samples_before_stop f.format w) in
      rw (gathering f g n 0 0 ls more s e (omega arith) many l level, v, stop-told f s n)

  -- ---- from the low at p ----

  pub unconfirmed : (f : Setting) (ls : Found) → f.sixteen ≡ true → length ls ≤ 7
      → told_from q (hunting true) (pulse false f ∷ lines ls) ≡ false ∷ replicate (length ls) false
  unfolding hears sample_of hunted pick
  unconfirmed f ls x l = rw (low_at_sixteen f x, h.of_still (starting f (record { 0 = 7 })), early f 7 ls l)

  pub hunts-again : (f : Setting) (ls rest : Found) → f.sixteen ≡ true → level_at ls 7 ≡ true → length ls ≡ 8
      → told_from q (hunting true) (pulse false f ∷ lines ls ++ lines rest) ≡ replicate 9 false ++ told_from q (hunting true) (lines rest)
  unfolding hears sample_of hunted looked_again pick
  hunts-again f ls rest x high l =
      let none : drop 8 ls ≡ [] = drop_of_length-le ls {i = 8} (omega arith) in
      rw (
        low_at_sixteen f x,
        h.of_still (starting f (record { 0 = 7 })),
        confirming f 7 ls (lines rest) (omega arith),
        high,
        none,
        h.of_still (hunting true),
      )

  -- of a 16X start, with so few that the stop's sample is not among them
  pub begun-sixteen : (f : Setting) (ls : Found) → f.sixteen ≡ true → f.format.width.0 ≤ 8 → level_at ls 7 ≡ false → 8 ≤ length ls
      → length ls < 24 + 16 * before_stop f.format
      → told_from q (hunting true) (pulse false f ∷ lines ls) ≡ replicate 8 false ++ start ∷ replicate (length ls - 8) false
  unfolding hears sample_of hunted looked_again gap_of pick
  begun-sixteen f ls x w low many l =
      let n : ℕ = before_stop f.format in
      let gap : gap_of f.sixteen ≡ record { 0 = 15 } = ap gap_of x in
      let rest : length (drop 8 ls) ≡ length ls - 8 = length-drop 8 ls in
      let all : 0 + n ≡ (samples_of f.format).0 = zero-add n ∙ sym (samples_before_stop f.format w) in
      rw (
        low_at_sixteen f x,
        h.of_still (starting f (record { 0 = 7 })),
        ← append-nil (lines ls),
        confirming f 7 ls [] (omega arith),
        low,
        h.of_confirmed f,
        gap,
        append-nil (lines (drop 8 ls)),
        unfinished f 15 n 15 0 0 (drop 8 ls) gap all (omega arith),
        rest,
      )

  pub begun-one : (f : Setting) (ls : Found) → f.sixteen ≡ false → f.format.width.0 ≤ 8 → length ls < before_stop f.format + 1
      → told_from q (hunting true) (pulse false f ∷ lines ls) ≡ start ∷ replicate (length ls) false
  unfolding hears sample_of hunted gap_of pick
  begun-one f ls x w l =
      let n : ℕ = before_stop f.format in
      let gap : gap_of f.sixteen ≡ record { 0 = 0 } = ap gap_of x in
      let all : 0 + n ≡ (samples_of f.format).0 = zero-add n ∙ sym (samples_before_stop f.format w) in
      rw (low_at_one f x, h.of_confirmed f, gap, unfinished f 0 n 0 0 0 ls gap all (omega arith))

  pub heard_sixteen : (f : Setting) (ls : Found) (more : List Line) → Sixteen f ls
      → told_from q (hunting true) (pulse false f ∷ lines ls ++ more)
      ≡ told_of start (pick (all_low f ls) change false) f ++ told_from q (after_samples f (sample_at ls)) more
  unfolding hears sample_of hunted looked_again gap_of pick
  heard_sixteen f ls more x =
      let n : ℕ = before_stop f.format in
      let l : length ls ≡ 24 + 16 * n = x.end in
      let rest : length (drop 8 ls) ≡ 16 * suc n = length-drop 8 ls ∙ omega arith in
      let gap : gap_of f.sixteen ≡ record { 0 = 15 } = ap gap_of x.sixteen in
      rw (
        low_at_sixteen f x.sixteen,
        h.of_still (starting f (record { 0 = 7 })),
        confirming f 7 ls more (omega arith),
        x.low,
        h.of_confirmed f,
        gap,
        whole f 15 (drop 8 ls) more (sample_at ls) gap x.width rest (λ i. level_dropped 8 ls (15 + 16 * i) ∙ ap (level_at ls) (omega arith)),
        x.sixteen,
        append_assoc (replicate (15 + 16 * n) false),
      )

  pub heard_one : (f : Setting) (ls : Found) (more : List Line) → One f ls
      → told_from q (hunting true) (pulse false f ∷ lines ls ++ more)
      ≡ told_of start (pick (all_low_one f ls) change false) f ++ told_from q (after_samples f (level_at ls)) more
  unfolding hears sample_of hunted gap_of pick
  heard_one f ls more x =
      let n : ℕ = before_stop f.format in
      let l : length ls ≡ n + 1 = x.end in
      let gap : gap_of f.sixteen ≡ record { 0 = 0 } = ap gap_of x.one in
      let all : 0 + 1 * n ≡ n = omega arith in
      rw (
        low_at_one f x.one,
        h.of_confirmed f,
        gap,
        whole f 0 ls more (level_at ls) gap x.width (omega arith) (λ i. ap (level_at ls) (omega arith)),
        x.one,
        all,
        append_assoc (replicate n false),
      )
