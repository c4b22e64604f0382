-- A character as it is heard. Pulses that are passed over are dropped, however many; the one after them is the sample, and its level stands in the list at
-- their number. So a character is gone through sample by sample, and what follows its stop is heard by the sampler that the stop leaves. Assumes nothing.
use Prim.Native.Nat.{ℕ, zero, suc, ◌+◌, ◌-◌, ◌*◌, ◌^◌, ◌≤◌, ◌<◌}
use mathlib.Core.Path.{◌≡◌, refl, sym, ap, ◌∙◌}
use mathlib.Core.Bool.{Bool, true, false}
use mathlib.Core.List.{List, [], ◌∷◌, ◌++◌}
use native.Mathlib.Omega.{arith}
use native.Mathlib.Nat.{zero-mul, add-zero, zero-add, suc-add, mul-suc}
use lib.Dec.{eqb}
use lib.ListN.{length, drop, length-drop, drop_of_length-le}
use borrow.Author.Tests.{lt-ltb, le-ltb, ne_eqb}
use Rattle.std.specs.Prelude.{option_to_list}
use Rattle.format.specs.Pick.{pick}
use Rattle.format.specs.Digits.{value_of}
use Rattle.format.proofs.Laws.Pick.{pick_yes, pick_no}
use Rattle.character.specs.Character.{break_character}
use Rattle.feed.specs.declared.feed.Setting.{Setting}
use Rattle.sampler_state.specs.Assembly.{samples_of, with_sample}
use Rattle.sampler_state.specs.State.{hunting, starting, assembling, in_break, gap_of}
use Rattle.sampler_state.proofs.Laws.Assembly.{with_sample_small}
use Rattle.sampler_hunting.specs.Hunting.{still, confirmed, low_at, hunted, looked_again}
use Rattle.sampler.specs.Sampler.{finished, sampled, assembled, sample_of}
use Rattle.sampler.specs.Lines.{Line, hears, arrivals}
use Rattle.sampler.proofs.Laws.Heard.{put_in}
use Rattle.sampler.specs.Lines.Line.{pulse}
use Rattle.sampler_laws.specs.Sampling.{Found, lines, level_at, samples, before_stop, character_at, Sixteen, sample_at, all_low}
use Rattle.sampler_laws.proofs.Laws.Samples.{samples_before_stop, samples_make, after_samples, after_break}

-- ---- the level of a pulse, once some are dropped ----

pub level_dropped : (n : ℕ) (ls : Found) (i : ℕ) → level_at (drop n ls) i ≡ level_at ls (n + i)
level_dropped zero ls i = rw (zero-add i)
level_dropped (suc n) [] i = refl
level_dropped (suc n) (l ∷ ls) i = rw (suc-add n i) (level_dropped n ls i)

-- ---- the pulse that is looked at ----

-- between the low at p and the pulse p+8
pub confirming : (f : Setting) (n : ℕ) (ls : Found) (more : List Line) → n < length ls
    → arrivals (starting f (record { 0 = n })) (lines ls ++ more)
    ≡ arrivals (looked_again (starting f (record { 0 = 0 })) (level_at ls n)).next (lines (drop (suc n) ls) ++ more)
unfolding arrivals hears sample_of looked_again pick
confirming f n [] more h = absurd (omega arith)
confirming f zero ((true, g) ∷ ls) more h = refl
confirming f zero ((false, g) ∷ ls) more h = refl
confirming f (suc n) (l ∷ ls) more h =
    let d : suc n - 1 ≡ n = omega arith in
    rw (ne_eqb (suc n) 0 (λ q. omega arith), d) (confirming f n ls more (omega arith))

-- and in a character
reaching : (f : Setting) (n k v : ℕ) (ls : Found) (more : List Line) → n < length ls
    → arrivals (assembling f (record { 0 = n }) (record { 0 = k }) v) (lines ls ++ more)
    ≡ option_to_list (sampled (assembling f (record { 0 = 0 }) (record { 0 = k }) v) (level_at ls n)).came
    ++ arrivals (sampled (assembling f (record { 0 = 0 }) (record { 0 = k }) v) (level_at ls n)).next (lines (drop (suc n) ls) ++ more)
unfolding arrivals hears sample_of assembled pick
reaching f n k v [] more h = absurd (omega arith)
reaching f zero k v (l ∷ ls) more h = refl
reaching f (suc n) k v (l ∷ ls) more h =
    let d : suc n - 1 ≡ n = omega arith in
    rw (ne_eqb (suc n) 0 (λ q. omega arith), d) (reaching f n k v ls more (omega arith))

-- ---- a character, sample by sample ----

-- With `g` pulses passed over before each sample: so many more before the stop's, put in above the `k` that are taken, and then the stop's.
gathering : (f : Setting) (g m k v : ℕ) (ls : Found) (more : List Line) (s : ℕ → Bool) → gap_of f.sixteen ≡ record { 0 = g } → v < 2 ^ k
    → k + m ≡ (samples_of f.format).0 → length ls ≡ suc g * suc m → ((i : ℕ) → level_at ls (g + suc g * i) ≡ s i)
    → arrivals (assembling f (record { 0 = g }) (record { 0 = k }) v) (lines ls ++ more)
    ≡ option_to_list (finished f (v + value_of (samples s m) * 2 ^ k) (s m)).came ++ arrivals (finished f (v + value_of (samples s m) * 2 ^ k) (s m)).next more
unfolding sampled value_of pick
gathering f g zero k v ls more s e small many l level =
    let first : level_at ls g ≡ s 0 = ap (level_at ls) (omega arith) ∙ level 0 in
    let none : drop (suc g) ls ≡ [] = drop_of_length-le ls {i = suc g} (omega arith) in
    let z : v + 0 * 2 ^ k ≡ v = rw (zero-mul (2 ^ k)) (add-zero v) in
    rw (reaching f g k v ls more (omega arith), le-ltb k (samples_of f.format).0 (omega arith), first, none, z)
gathering f g (suc m) k v ls more s e small many l level =
    let first : level_at ls g ≡ s 0 = ap (level_at ls) (omega arith) ∙ level 0 in
    let rest : length (drop (suc g) ls) ≡ suc g * suc m = length-drop (suc g) ls ∙ rw (l, mul-suc (suc g) (suc m)) (omega arith) in
    rw (reaching f g k v ls more (omega arith), lt-ltb k (samples_of f.format).0 (omega arith), first, e, ← put_in (s 0) k v _ small)
    (gathering f g m (k + 1) (with_sample v k (s 0)) (drop (suc g) ls) more (λ (i : ℕ). s (suc i)) e (with_sample_small v k (s 0)) (omega arith) rest
    (λ i. level_dropped (suc g) ls (g + suc g * i) ∙ ap (level_at ls) (rw (mul-suc (suc g) i) (omega arith)) ∙ level (suc i)))

-- all of it
whole : (f : Setting) (g : ℕ) (ls : Found) (more : List Line) (s : ℕ → Bool) → gap_of f.sixteen ≡ record { 0 = g } → f.format.width.0 ≤ 8
    → length ls ≡ suc g * suc (before_stop f.format) → ((i : ℕ) → level_at ls (g + suc g * i) ≡ s i)
    → arrivals (assembling f (record { 0 = g }) (record { 0 = 0 }) 0) (lines ls ++ more) ≡ character_at f.format s ∷ arrivals (after_samples f s) more
whole f g ls more s e w l level =
    let n : ℕ = before_stop f.format in
    let v : 0 + value_of (samples s n) * 2 ^ 0 ≡ value_of (samples s n) = omega arith in
    let many : 0 + n ≡ (samples_of f.format).0 = zero-add n ∙ sym (samples_before_stop f.format w) in
    rw (gathering f g n 0 0 ls more s e (omega arith) many l level, v, samples_make f s w)

-- ---- from the low at p ----

pub low_at_sixteen : (f : Setting) → f.sixteen ≡ true → low_at f ≡ still (starting f (record { 0 = 7 }))
unfolding low_at
low_at_sixteen f e = pick_yes f.sixteen _ _ e

pub low_at_one : (f : Setting) → f.sixteen ≡ false → low_at f ≡ confirmed f
unfolding low_at
low_at_one f e = pick_no f.sixteen _ _ e

pub heard_sixteen : (f : Setting) (ls : Found) (more : List Line) → Sixteen f ls
    → arrivals (hunting true) (pulse false f ∷ lines ls ++ more) ≡ character_at f.format (sample_at ls) ∷ arrivals (after_samples f (sample_at ls)) more
unfolding arrivals hears sample_of hunted looked_again gap_of pick
heard_sixteen f ls more x =
    let l : length ls ≡ 24 + 16 * before_stop f.format = x.end in
    let rest : length (drop 8 ls) ≡ 16 * suc (before_stop f.format) = length-drop 8 ls ∙ omega arith in
    let gap : gap_of f.sixteen ≡ record { 0 = 15 } = ap gap_of x.sixteen in
    rw (low_at_sixteen f x.sixteen, confirming f 7 ls more (omega arith), x.low, gap)
    (whole f 15 (drop 8 ls) more (sample_at ls) gap x.width rest (λ i. level_dropped 8 ls (15 + 16 * i) ∙ ap (level_at ls) (omega arith)))

pub heard_one : (f : Setting) (ls : Found) (more : List Line) → f.sixteen ≡ false → f.format.width.0 ≤ 8 → length ls ≡ before_stop f.format + 1
    → arrivals (hunting true) (pulse false f ∷ lines ls ++ more) ≡ character_at f.format (level_at ls) ∷ arrivals (after_samples f (level_at ls)) more
unfolding arrivals hears sample_of hunted gap_of pick
heard_one f ls more x w l =
    let gap : gap_of f.sixteen ≡ record { 0 = 0 } = ap gap_of x in
    rw (low_at_one f x, gap) (whole f 0 ls more (level_at ls) gap w (omega arith) (λ i. ap (level_at ls) (omega arith)))

-- a break, and what follows it
pub heard_break : (f : Setting) (ls : Found) (more : List Line) → Sixteen f ls → all_low f ls ≡ true
    → arrivals (hunting true) (pulse false f ∷ lines ls ++ more) ≡ break_character ∷ arrivals (in_break 7) more
unfolding pick
heard_break f ls more x all = rw (heard_sixteen f ls more x, after_break f (sample_at ls) all, all)

pub heard_one_break : (f : Setting) (ls : Found) (more : List Line) → f.sixteen ≡ false → f.format.width.0 ≤ 8
    → length ls ≡ before_stop f.format + 1 → eqb (value_of (samples (level_at ls) (before_stop f.format + 1))) 0 ≡ true
    → arrivals (hunting true) (pulse false f ∷ lines ls ++ more) ≡ break_character ∷ arrivals (in_break 7) more
unfolding pick
heard_one_break f ls more x w l all = rw (heard_one f ls more x w l, after_break f (level_at ls) all, all)
