-- The character that samples make, as a sampler makes it: the samples before the stop make one number, the data bits low in it and the parity bit above
-- them; all samples are low where that number is 0 and the stop low. And the sampler that the stop leaves. Assumes nothing.
use Prim.Native.Nat.{ℕ, zero, suc, ◌+◌, ◌*◌, ◌/◌, ◌%◌, ◌^◌, ◌≤◌, ◌<◌}
use mathlib.Core.Path.{◌≡◌, refl, sym, ap, ◌∙◌}
use mathlib.Core.Bool.{Bool, true, false, not, ◌&&◌, true≢false}
use mathlib.Core.List.{[], ◌∷◌, ◌++◌}
use native.Mathlib.Omega.{arith}
use native.Mathlib.Nat.{pow-succ', mod-eq_of_lt, div-eq_of_lt, add-mul-mod_self_left, add-mul-div_left, one-le-pow, zero-add, suc-add}
use lib.Dec.{eqb}
use lib.ListN.{length}
use borrow.Author.Tests.{ne_eqb}
use Rattle.std.specs.Prelude.{option_to_list}
use Rattle.format.specs.declared.format.Format.{Format}
use Rattle.format.specs.Pick.{pick}
use Rattle.format.specs.Digits.{bit, value_of}
use Rattle.format.specs.Parity.{has_parity_of, parity_bit_of}
use Rattle.format.proofs.Laws.Digits.{value_append, bit_small}
use Rattle.character.specs.Character.{break_character}
use Rattle.sampler_state.specs.declared.state.Sampler.{Sampler}
use Rattle.feed.specs.declared.feed.Setting.{Setting}
use Rattle.sampler_state.specs.State.{hunting, after_low_stop, in_break, after_stop}
use Rattle.sampler_state.specs.Assembly.{data_width_of, samples_of, data_of, parity_wrong_of, character_of}
use Rattle.sampler_state.proofs.Laws.Assembly.{width_whole}
use Rattle.sampler.specs.Sampler.{arrived, broke, finished}
use Rattle.sampler_laws.specs.Sampling.{samples, before_stop, byte_at, parity_wrong, character_at}

-- ---- the number that samples make ----

samples_length : (s : ℕ → Bool) (n : ℕ) → length (samples s n) ≡ n
samples_length s zero = refl
samples_length s (suc n) = rw (samples_length (λ (k : ℕ). s (suc k)) n)

samples_last : (s : ℕ → Bool) (n : ℕ) → samples s (n + 1) ≡ samples s n ++ (s n ∷ [])
samples_last s zero = refl
samples_last s (suc n) = rw (suc-add n 1, samples_last (λ (k : ℕ). s (suc k)) n)

-- one sample more is put in above the others
value_last : (s : ℕ → Bool) (n : ℕ) → value_of (samples s (n + 1)) ≡ value_of (samples s n) + 2 ^ n * bit (s n)
unfolding value_of
value_last s n = rw (samples_last s n, value_append (samples s n) (s n ∷ []), samples_length s n) (omega arith)

value_small : (s : ℕ → Bool) (n : ℕ) → value_of (samples s n) < 2 ^ n
unfolding value_of
value_small s zero = omega arith
value_small s (suc n) =
    let h = value_small (λ (k : ℕ). s (suc k)) n in
    let b = bit_small (s 0) in
    rw (pow-succ' 2 n) (omega arith)

-- ---- data and parity among them ----

pub samples_before_stop : (f : Format) → f.width.0 ≤ 8 → (samples_of f).0 ≡ before_stop f
unfolding samples_of pick
samples_before_stop f h = go (has_parity_of f)
  where
    go : (t : Bool) → (pick t (record { 0 = (data_width_of f).0 + 1 }) (data_width_of f)).0 ≡ pick t (f.width.0 + 1) f.width.0
    go true = rw (width_whole f h)
    go false = width_whole f h

-- one more, where there is one, leaves the others as they are, and is found above them
low : (s : ℕ → Bool) (w : ℕ) (t : Bool) → value_of (samples s (pick t (w + 1) w)) % 2 ^ w ≡ value_of (samples s w)
unfolding pick
low s w true = rw (value_last s w) (add-mul-mod_self_left (value_of (samples s w)) (2 ^ w) (bit (s w)) ∙ mod-eq_of_lt (value_small s w))
low s w false = mod-eq_of_lt (value_small s w)

above : (s : ℕ → Bool) (w : ℕ) → value_of (samples s (w + 1)) / 2 ^ w ≡ bit (s w)
above s w =
    rw (value_last s w)
    (add-mul-div_left (value_of (samples s w)) (bit (s w)) (one-le-pow w 2 (omega arith)) ∙ rw (div-eq_of_lt (value_small s w)) (zero-add (bit (s w))))

data_at : (f : Format) (s : ℕ → Bool) → f.width.0 ≤ 8 → data_of f (value_of (samples s (before_stop f))) ≡ byte_at f s
data_at f s h = rw (width_whole f h) (low s f.width.0 (has_parity_of f))

differ : (a b : Bool) → pick (eqb (bit a % 2) 1) (not b) b ≡ not (eqb (bit a) (bit b))
unfolding pick
differ true true = refl
differ true false = refl
differ false true = refl
differ false false = refl

parity_at : (f : Format) (s : ℕ → Bool) → f.width.0 ≤ 8 → parity_wrong_of f (value_of (samples s (before_stop f))) ≡ parity_wrong f s
unfolding parity_wrong_of pick
parity_at f s h = rw (data_at f s h, width_whole f h) (go (has_parity_of f))
  where
    go : (t : Bool) → pick t
        (pick (eqb (value_of (samples s (pick t (f.width.0 + 1) f.width.0)) / 2 ^ f.width.0 % 2) 1)
        (not (parity_bit_of f (byte_at f s))) (parity_bit_of f (byte_at f s))) false
        ≡ t && not (eqb (bit (s f.width.0)) (bit (parity_bit_of f (byte_at f s))))
    go true = rw (above s f.width.0) (differ (s f.width.0) (parity_bit_of f (byte_at f s)))
    go false = refl

-- ---- the character ----

-- all are low where those before the stop are and the stop is
pub all_low_lem : (s : ℕ → Bool) (n : ℕ) (stop : Bool) → s n ≡ stop → eqb (value_of (samples s (n + 1))) 0 ≡ pick stop false (eqb (value_of (samples s n)) 0)
unfolding pick
all_low_lem s n true e =
    let p : 0 < 2 ^ n = one-le-pow n 2 (omega arith) in
    rw (value_last s n, e) (ne_eqb (value_of (samples s n) + 2 ^ n * 1) 0 (λ q. omega arith))
all_low_lem s n false e =
    let z : value_of (samples s n) + 2 ^ n * 0 ≡ value_of (samples s n) = omega arith in
    rw (value_last s n, e, z)

-- what arrives at the stop's sample
came_of : (g : Setting) (v : ℕ) (stop : Bool)
    → option_to_list (finished g v stop).came ≡ pick (pick stop false (eqb v 0)) break_character (character_of g.format v stop) ∷ []
unfolding finished pick
came_of g v true = refl
came_of g v false = go (eqb v 0)
  where
    go : (t : Bool) → option_to_list (pick t broke (arrived g v false)).came ≡ pick t break_character (character_of g.format v false) ∷ []
    go true = refl
    go false = refl

pub samples_make : (g : Setting) (s : ℕ → Bool) → g.format.width.0 ≤ 8
    → option_to_list (finished g (value_of (samples s (before_stop g.format))) (s (before_stop g.format))).came ≡ character_at g.format s ∷ []
unfolding character_of
samples_make g s h =
    let n : ℕ = before_stop g.format in
    rw (came_of g (value_of (samples s n)) (s n), ← all_low_lem s n (s n) refl, data_at g.format s h, parity_at g.format s h)

-- ---- the sampler after the stop ----

stop_low : (f : Setting) (v : ℕ) → eqb v 0 ≡ false → (finished f v false).next ≡ after_stop f.sixteen false
unfolding finished pick
stop_low f v e = rw e

stop_break : (f : Setting) (v : ℕ) → eqb v 0 ≡ true → (finished f v false).next ≡ in_break 7
unfolding finished pick
stop_break f v e = rw e

abbrev pub after_samples : Setting → (ℕ → Bool) → Sampler
after_samples f s = (finished f (value_of (samples s (before_stop f.format))) (s (before_stop f.format))).next

-- the stop's sample being known
stopped : (f : Setting) (s : ℕ → Bool) (stop : Bool) → s (before_stop f.format) ≡ stop
    → after_samples f s ≡ (finished f (value_of (samples s (before_stop f.format))) stop).next
stopped f s stop e = ap (λ (b : Bool). (finished f (value_of (samples s (before_stop f.format))) b).next) e

pub after_high : (f : Setting) (s : ℕ → Bool) → s (before_stop f.format) ≡ true → after_samples f s ≡ hunting true
unfolding finished after_stop pick
after_high f s e = stopped f s true e

-- a low stop that is no break
low_stop : (f : Setting) (s : ℕ → Bool) → s (before_stop f.format) ≡ false → eqb (value_of (samples s (before_stop f.format + 1))) 0 ≡ false
    → after_samples f s ≡ after_stop f.sixteen false
unfolding pick
low_stop f s e some = stopped f s false e ∙ stop_low f _ (sym (all_low_lem s (before_stop f.format) false e) ∙ some)

pub after_low : (f : Setting) (s : ℕ → Bool) → f.sixteen ≡ true → s (before_stop f.format) ≡ false
    → eqb (value_of (samples s (before_stop f.format + 1))) 0 ≡ false → after_samples f s ≡ after_low_stop 7
unfolding after_stop pick
after_low f s x e some = low_stop f s e some ∙ ap (λ (b : Bool). after_stop b false) x

pub after_low_one : (f : Setting) (s : ℕ → Bool) → f.sixteen ≡ false → s (before_stop f.format) ≡ false
    → eqb (value_of (samples s (before_stop f.format + 1))) 0 ≡ false → after_samples f s ≡ after_low_stop 0
unfolding after_stop pick
after_low_one f s x e some = low_stop f s e some ∙ ap (λ (b : Bool). after_stop b false) x

pub after_break : (f : Setting) (s : ℕ → Bool) → eqb (value_of (samples s (before_stop f.format + 1))) 0 ≡ true → after_samples f s ≡ in_break 7
unfolding pick
after_break f s all = go (s (before_stop f.format)) refl
  where
    go : (stop : Bool) → s (before_stop f.format) ≡ stop → after_samples f s ≡ in_break 7
    go true e = absurd (true≢false (sym all ∙ all_low_lem s (before_stop f.format) true e))
    go false e = stopped f s false e ∙ stop_break f _ (sym (all_low_lem s (before_stop f.format) false e) ∙ all)
