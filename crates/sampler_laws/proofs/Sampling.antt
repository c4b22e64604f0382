-- The sampling rule. A character is heard sample by sample (Laws/Characters), and what follows its stop by the sampler that the stop leaves (Laws/Stopped).
-- With too few pulses the stop's sample is never reached. Assumes nothing.
use Prim.Native.Nat.{ℕ, zero, suc, ◌+◌, ◌-◌, ◌*◌, ◌≤◌, ◌<◌}
use mathlib.Core.Path.{◌≡◌, refl, sym, ap, ◌∙◌}
use mathlib.Core.Bool.{Bool, true, false, true≢false}
use mathlib.Core.List.{[], ◌∷◌, ◌++◌, append_assoc}
use native.Mathlib.Omega.{arith}
use native.Mathlib.Nat.{zero-add, mul-suc}
use lib.Dec.{eqb}
use lib.ListN.{length, drop, drop_of_length-le}
use borrow.Author.Tests.{lt-ltb, ne_eqb}
use Rattle.format.specs.Pick.{pick}
use Rattle.format.specs.Digits.{value_of}
use Rattle.character.specs.Character.{break_character}
use Rattle.feed.specs.declared.feed.Setting.{Setting}
use Rattle.sampler_state.specs.Assembly.{samples_of, with_sample}
use Rattle.sampler_state.specs.State.{hunting, starting, assembling, gap_of}
use Rattle.sampler_hunting.specs.Hunting.{hunted, looked_again}
use Rattle.sampler.specs.Sampler.{sampled, assembled, sample_of}
use Rattle.sampler.specs.Lines.{hears, arrivals}
use Rattle.sampler.specs.Lines.Line.{pulse}
use Rattle.sampler_laws.specs.Sampling.{Found, lines, level_at, samples, before_stop, character_at, all_at, all_sixteen, Samples}
use Rattle.sampler_laws.specs.Sampling.{Sixteen, sample_at, stop_at, all_low}
use Rattle.sampler_laws.proofs.Laws.Samples.{samples_before_stop, after_samples, after_high, after_low, after_low_one}
use Rattle.sampler_laws.proofs.Laws.Characters.{confirming, low_at_sixteen, heard_sixteen, heard_one, heard_break, heard_one_break}
use Rattle.sampler_laws.proofs.Laws.Stopped.{lows_again, lows_until, next_low, break_lows, break_highs, break_waits, break_high}

-- ---- too few pulses ----

-- with so many samples still to come before the stop's, and so many pulses before the next one
pub unfinished : (f : Setting) (g m n k v : ℕ) (ls : Found) → gap_of f.sixteen ≡ record { 0 = g } → k + m ≡ (samples_of f.format).0
    → length ls ≤ n + suc g * m → arrivals (assembling f (record { 0 = n }) (record { 0 = k }) v) (lines ls) ≡ []
unfolding arrivals hears sample_of assembled sampled pick
unfinished f g m n k v [] e many l = refl
unfinished f g zero zero k v (p ∷ ls) e many l = absurd (omega arith)
unfinished f g (suc m) zero k v (p ∷ ls) e many l =
    let more : suc g * suc m ≡ suc (g + suc g * m) = rw (mul-suc (suc g) m) (omega arith) in
    rw (lt-ltb k (samples_of f.format).0 (omega arith), e) (unfinished f g m g (k + 1) (with_sample v k p.0) ls e (omega arith) (omega arith))
unfinished f g m (suc n) k v (p ∷ ls) e many l =
    let d : suc n - 1 ≡ n = omega arith in
    rw (ne_eqb (suc n) 0 (λ q. omega arith), d) (unfinished f g m n k v ls e many (omega arith))

-- and from between the low at p and the pulse p+8 on
unheard : (f : Setting) (n : ℕ) (ls : Found) → f.sixteen ≡ true → f.format.width.0 ≤ 8 → (suc n ≤ length ls → level_at ls n ≡ false)
    → length ls < suc n + (16 + 16 * before_stop f.format) → arrivals (starting f (record { 0 = n })) (lines ls) ≡ []
unfolding arrivals hears sample_of looked_again gap_of pick
unheard f n [] x w low l = refl
unheard f zero ((true, g) ∷ ls) x w low l = absurd (true≢false (low (omega arith)))
unheard f zero ((false, g) ∷ ls) x w low l =
    let gap : gap_of f.sixteen ≡ record { 0 = 15 } = ap gap_of x in
    rw gap (unfinished f 15 (before_stop f.format) 15 0 0 ls gap (zero-add _ ∙ sym (samples_before_stop f.format w)) (omega arith))
unheard f (suc n) (p ∷ ls) x w low l =
    let d : suc n - 1 ≡ n = omega arith in
    rw (ne_eqb (suc n) 0 (λ q. omega arith), d) (unheard f n ls x w (λ h. low (omega arith)) (omega arith))

-- ---- the rule ----

high_rule : (f : Setting) (rest : Found) → arrivals (hunting true) (pulse true f ∷ lines rest) ≡ arrivals (hunting true) (lines rest)
unfolding arrivals hears sample_of hunted pick
high_rule f rest = refl

end_rule : arrivals (hunting true) [] ≡ []
unfolding arrivals
end_rule = refl

sixteen_rule : (f : Setting) (ls rest : Found) → Sixteen f ls → (stop_at f ls ≡ false → rest ≡ [])
    → arrivals (hunting true) (pulse false f ∷ lines ls ++ lines rest) ≡ character_at f.format (sample_at ls) ∷ arrivals (hunting true) (lines rest)
unfolding arrivals
sixteen_rule f ls rest x last = rw (heard_sixteen f ls (lines rest) x) (go (stop_at f ls) refl)
  where
    go : (b : Bool) → stop_at f ls ≡ b
        → character_at f.format (sample_at ls) ∷ arrivals (after_samples f (sample_at ls)) (lines rest)
        ≡ character_at f.format (sample_at ls) ∷ arrivals (hunting true) (lines rest)
    go true e = rw (after_high f (sample_at ls) e)
    go false e = rw (last e)

before_rule : (f : Setting) (ls : Found) → f.sixteen ≡ true → f.format.width.0 ≤ 8 → (8 ≤ length ls → level_at ls 7 ≡ false)
    → length ls < 24 + 16 * before_stop f.format → arrivals (hunting true) (pulse false f ∷ lines ls) ≡ []
unfolding arrivals hears sample_of hunted pick
before_rule f ls x w low l = rw (low_at_sixteen f x) (unheard f 7 ls x w low (omega arith))

none_rule : (f : Setting) (ls rest : Found) → f.sixteen ≡ true → level_at ls 7 ≡ true → length ls ≡ 8
    → arrivals (hunting true) (pulse false f ∷ lines ls ++ lines rest) ≡ arrivals (hunting true) (lines rest)
unfolding arrivals hears sample_of hunted looked_again pick
none_rule f ls rest x high l =
    let none : drop 8 ls ≡ [] = drop_of_length-le ls {i = 8} (omega arith) in
    rw (low_at_sixteen f x, confirming f 7 ls (lines rest) (omega arith), high, none)

again_rule : (f g : Setting) (ls lows rest : Found) → Sixteen f ls → stop_at f ls ≡ false → all_low f ls ≡ false
    → all_at false lows ≡ true → length lows ≡ 7
    → arrivals (hunting true) (pulse false f ∷ lines ls ++ lines lows ++ pulse false g ∷ lines rest)
    ≡ character_at f.format (sample_at ls) ∷ arrivals (hunting true) (pulse false g ∷ lines rest)
again_rule f g ls lows rest x stop some low l =
    rw (
      append_assoc (pulse false f ∷ lines ls) (lines lows) (pulse false g ∷ lines rest),
      heard_sixteen f ls (lines lows ++ pulse false g ∷ lines rest) x,
      after_low f (sample_at ls) x.sixteen stop some,
      lows_again 7 g lows (lines rest) low l,
    )

until_rule : (f g : Setting) (ls lows rest : Found) → Sixteen f ls → stop_at f ls ≡ false → all_low f ls ≡ false
    → all_at false lows ≡ true → length lows ≤ 7
    → arrivals (hunting true) (pulse false f ∷ lines ls ++ lines lows ++ pulse true g ∷ lines rest)
    ≡ character_at f.format (sample_at ls) ∷ arrivals (hunting true) (lines rest)
until_rule f g ls lows rest x stop some low l =
    rw (
      append_assoc (pulse false f ∷ lines ls) (lines lows) (pulse true g ∷ lines rest),
      heard_sixteen f ls (lines lows ++ pulse true g ∷ lines rest) x,
      after_low f (sample_at ls) x.sixteen stop some,
      lows_until 7 g lows (lines rest) low l,
    )

break_rule : (f : Setting) (ls lows highs rest : Found) → Sixteen f ls → all_low f ls ≡ true → all_at false lows ≡ true → all_at true highs ≡ true
    → all_sixteen highs ≡ true → length highs ≡ 8
    → arrivals (hunting true) (pulse false f ∷ lines ls ++ lines lows ++ lines highs ++ lines rest)
    ≡ break_character ∷ arrivals (hunting true) (lines rest)
break_rule f ls lows highs rest x all low high sixteen l =
    rw (
      append_assoc ((pulse false f ∷ lines ls) ++ lines lows) (lines highs) (lines rest),
      append_assoc (pulse false f ∷ lines ls) (lines lows) (lines highs ++ lines rest),
      heard_break f ls (lines lows ++ (lines highs ++ lines rest)) x all,
      break_lows lows (lines highs ++ lines rest) low,
      break_highs 7 highs (lines rest) high sixteen l,
    )

waits_rule : (f g : Setting) (ls highs rest : Found) → Sixteen f ls → all_low f ls ≡ true
    → all_at true highs ≡ true → all_sixteen highs ≡ true → length highs ≤ 7
    → arrivals (hunting true) (pulse false f ∷ lines ls ++ lines highs ++ pulse false g ∷ lines rest)
    ≡ arrivals (hunting true) (pulse false f ∷ lines ls ++ lines rest)
waits_rule f g ls highs rest x all high sixteen l =
    rw (
      append_assoc (pulse false f ∷ lines ls) (lines highs) (pulse false g ∷ lines rest),
      heard_break f ls (lines highs ++ pulse false g ∷ lines rest) x all,
      heard_break f ls (lines rest) x all,
      break_waits 7 g highs (lines rest) high sixteen l,
    )

one_rule : (f : Setting) (ls rest : Found) → f.sixteen ≡ false → f.format.width.0 ≤ 8 → length ls ≡ before_stop f.format + 1
    → (eqb (value_of (samples (level_at ls) (before_stop f.format + 1))) 0 ≡ true → rest ≡ [])
    → arrivals (hunting true) (pulse false f ∷ lines ls ++ lines rest) ≡ character_at f.format (level_at ls) ∷ arrivals (hunting true) (lines rest)
unfolding arrivals
one_rule f ls rest x w l last =
    rw (heard_one f ls (lines rest) x w l)
    (go (level_at ls (before_stop f.format)) (eqb (value_of (samples (level_at ls) (before_stop f.format + 1))) 0) refl refl)
  where
    go : (stop all : Bool) → level_at ls (before_stop f.format) ≡ stop → eqb (value_of (samples (level_at ls) (before_stop f.format + 1))) 0 ≡ all
        → character_at f.format (level_at ls) ∷ arrivals (after_samples f (level_at ls)) (lines rest)
        ≡ character_at f.format (level_at ls) ∷ arrivals (hunting true) (lines rest)
    go stop true e a = rw (last a)
    go true false e a = rw (after_high f (level_at ls) e)
    go false false e a = rw (after_low_one f (level_at ls) x e a, next_low rest)

one_high_rule : (f g : Setting) (ls rest : Found) → Sixteen f ls → all_low f ls ≡ true → g.sixteen ≡ false
    → arrivals (hunting true) (pulse false f ∷ lines ls ++ pulse true g ∷ lines rest) ≡ break_character ∷ arrivals (hunting true) (lines rest)
one_high_rule f g ls rest x all one = rw (heard_break f ls (pulse true g ∷ lines rest) x all, break_high 7 g (lines rest) one)

one_break_rule : (f g : Setting) (ls lows rest : Found) → f.sixteen ≡ false → f.format.width.0 ≤ 8 → length ls ≡ before_stop f.format + 1
    → eqb (value_of (samples (level_at ls) (before_stop f.format + 1))) 0 ≡ true → all_at false lows ≡ true → g.sixteen ≡ false
    → arrivals (hunting true) (pulse false f ∷ lines ls ++ lines lows ++ pulse true g ∷ lines rest)
    ≡ break_character ∷ arrivals (hunting true) (lines rest)
one_break_rule f g ls lows rest x w l all low one =
    rw (
      append_assoc (pulse false f ∷ lines ls) (lines lows) (pulse true g ∷ lines rest),
      heard_one_break f ls (lines lows ++ pulse true g ∷ lines rest) x w l all,
      break_lows lows (pulse true g ∷ lines rest) low,
      break_high 7 g (lines rest) one,
    )

slowly_rule : (f : Setting) (ls lows highs rest : Found) → f.sixteen ≡ false → f.format.width.0 ≤ 8 → length ls ≡ before_stop f.format + 1
    → eqb (value_of (samples (level_at ls) (before_stop f.format + 1))) 0 ≡ true → all_at false lows ≡ true → all_at true highs ≡ true
    → all_sixteen highs ≡ true → length highs ≡ 8
    → arrivals (hunting true) (pulse false f ∷ lines ls ++ lines lows ++ lines highs ++ lines rest)
    ≡ break_character ∷ arrivals (hunting true) (lines rest)
slowly_rule f ls lows highs rest x w l all low high sixteen eight =
    rw (
      append_assoc ((pulse false f ∷ lines ls) ++ lines lows) (lines highs) (lines rest),
      append_assoc (pulse false f ∷ lines ls) (lines lows) (lines highs ++ lines rest),
      heard_one_break f ls (lines lows ++ (lines highs ++ lines rest)) x w l all,
      break_lows lows (lines highs ++ lines rest) low,
      break_highs 7 highs (lines rest) high sixteen eight,
    )

pub samples_rule : Samples (arrivals (hunting true))
samples_rule = record {
  high = high_rule;
  end = end_rule;
  sixteen = sixteen_rule;
  before = before_rule;
  none = none_rule;
  again = again_rule;
  until = until_rule;
  break = break_rule;
  waits = waits_rule;
  one = one_rule;
  one_high = one_high_rule;
  one_break = one_break_rule;
  slowly = slowly_rule;
}
