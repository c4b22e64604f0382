-- Every pulse keeps every field of the sampler in its range, on every sampler in range, reached or not: each rule's answers are gone
-- through, `pick` by `pick`; only a sample that is put in has to know that fewer than nine were taken. Assumes nothing.
use Prim.Native.Nat.{ℕ, ◌+◌, ◌^◌, ◌≤◌, ◌<◌}
use mathlib.Core.Path.{◌≡◌, refl}
use mathlib.Core.Bool.{Bool, true, false, and-eq-true_iff}
use native.Mathlib.Omega.{arith}
use native.Mathlib.Nat.{lt_of_lt_of_le}
use lib.Dec.{eqb, ltb, leb}
use lib.Pow.{pow_mono}
use borrow.Author.Tests.{ltb-true, leb-true, le-leb}
use Rattle.format.specs.declared.counts.Bits.{Bits}
use Rattle.format.specs.declared.counts.Pulses.{Pulses}
use Rattle.format.specs.Pick.{pick}
use Rattle.format.specs.Format.{format_of}
use Rattle.format.proofs.Laws.Pick.{pick_all}
use Rattle.sampler_state.specs.declared.state.Sampler.{Sampler}
use Rattle.feed.specs.declared.feed.Setting.{Setting}
use Rattle.sampler_state.specs.Assembly.{samples_of, with_sample}
use Rattle.sampler_state.specs.State.{empty_at, hunting, starting, assembling, gap_of, after_stop}
use Rattle.sampler_state.proofs.Laws.Assembly.{samples_most, with_sample_small}
use Rattle.sampler_hunting.specs.declared.hunting.Sampled.{Sampled}
use Rattle.sampler_hunting.specs.Hunting.{confirmed, low_at, hunted, looked_again, followed, waited}
use Rattle.sampler.specs.Sampler.{finished, sampled, assembled, sample_of}
use Rattle.sampler.specs.Sound.{sampler_in_range}
use Rattle.feed.specs.Ranges.{setting_in_range}

-- the ranges as inequalities
record Within (s : Sampler) : Type 0 where
  phase : s.phase ≤ 4
  left : s.left.0 ≤ 15
  setting : setting_in_range s.setting ≡ true
  taken : s.taken.0 ≤ 9
  value : s.value ≤ 511

-- ---- the sampler ----

abbrev Next : Sampled → Type 0
Next m = Within m.next

empty_within : (phase : ℕ) (high : Bool) (left : Pulses) → phase ≤ 4 → left.0 ≤ 15 → Within (empty_at phase high left)
unfolding format_of
empty_within phase high left h l = record { phase = h; left = l; setting = refl; taken = omega arith; value = omega arith }

hunting_within : (high : Bool) → Within (hunting high)
hunting_within high = empty_within 0 high _ (omega arith) (omega arith)

gap_most : (sixteen : Bool) → (gap_of sixteen).0 ≤ 15
unfolding gap_of
gap_most sixteen = pick_all (λ (p : Pulses). p.0 ≤ 15) sixteen _ _ (omega arith) (omega arith)

starting_within : (f : Setting) (left : Pulses) → setting_in_range f ≡ true → left.0 ≤ 15 → Within (starting f left)
starting_within f left h l = record { phase = omega arith; left = l; setting = h; taken = omega arith; value = omega arith }

assembling_within : (f : Setting) (left : Pulses) (taken : Bits) (v : ℕ) → setting_in_range f ≡ true → left.0 ≤ 15 → taken.0 ≤ 9 → v ≤ 511
    → Within (assembling f left taken v)
assembling_within f left taken v h l k m = record { phase = omega arith; left = l; setting = h; taken = k; value = m }

confirmed_within : (f : Setting) → setting_in_range f ≡ true → Next (confirmed f)
confirmed_within f h = assembling_within f _ _ _ h (gap_most f.sixteen) (omega arith) (omega arith)

low_within : (f : Setting) → setting_in_range f ≡ true → Next (low_at f)
unfolding low_at
low_within f h = pick_all Next f.sixteen _ _ (starting_within f _ h (omega arith)) (confirmed_within f h)

hunted_within : (s : Sampler) (level : Bool) (f : Setting) → setting_in_range f ≡ true → Next (hunted s level f)
unfolding hunted
hunted_within s level f h =
    pick_all Next level _ _ (hunting_within true) (pick_all Next s.high _ _ (low_within f h) (hunting_within false))

looked_again_within : (s : Sampler) (level : Bool) → Within s → Next (looked_again s level)
unfolding looked_again
looked_again_within s level h =
    let l = h.left in
    pick_all Next (eqb s.left.0 0) _ _
    (pick_all Next level _ _ (hunting_within true) (confirmed_within s.setting h.setting))
    (starting_within s.setting _ h.setting (omega arith))

stop_within : (sixteen stop : Bool) → Within (after_stop sixteen stop)
unfolding after_stop
stop_within sixteen stop =
    pick_all Within stop _ _ (hunting_within true)
    (pick_all Within sixteen _ _ (empty_within 3 false _ (omega arith) (omega arith)) (empty_within 3 false _ (omega arith) (omega arith)))

finished_within : (f : Setting) (v : ℕ) (stop : Bool) → Next (finished f v stop)
unfolding finished
finished_within f v stop =
    pick_all Next stop _ _ (stop_within f.sixteen true)
    (pick_all Next (eqb v 0) _ _ (empty_within 4 false _ (omega arith) (omega arith)) (stop_within f.sixteen false))

-- nine samples make nine bits
sample_fits : (v k : ℕ) (b : Bool) → k < 9 → with_sample v k b ≤ 511
sample_fits v k b h =
    let nine : k + 1 ≤ 9 = omega arith in
    let small : with_sample v k b < 2 ^ 9 = lt_of_lt_of_le (with_sample_small v k b) (pow_mono nine) in
    omega arith

sampled_within : (s : Sampler) (level : Bool) → Within s → Next (sampled s level)
unfolding sampled pick
sampled_within s level h = go (ltb s.taken.0 (samples_of s.setting.format).0) refl
  where
    go : (t : Bool) → ltb s.taken.0 (samples_of s.setting.format).0 ≡ t → Next (sampled s level)
    go true e =
        let below = ltb-true s.taken.0 (samples_of s.setting.format).0 e in
        let most = samples_most s.setting.format in
        rw e
        (assembling_within s.setting _ _ _ h.setting (gap_most s.setting.sixteen) (omega arith) (sample_fits s.value s.taken.0 level (omega arith)))
    go false e = rw e (finished_within s.setting s.value level)

assembled_within : (s : Sampler) (level : Bool) → Within s → Next (assembled s level)
unfolding assembled
assembled_within s level h =
    let l = h.left in
    pick_all Next (eqb s.left.0 0) _ _ (sampled_within s level h)
    (assembling_within s.setting _ s.taken s.value h.setting (omega arith) h.taken h.value)

followed_within : (s : Sampler) (level : Bool) (f : Setting) → Within s → setting_in_range f ≡ true → Next (followed s level f)
unfolding followed
followed_within s level f h k =
    let l = h.left in
    pick_all Next level _ _ (hunting_within true)
    (pick_all Next (eqb s.left.0 0) _ _ (low_within f k) (empty_within 3 false _ (omega arith) (omega arith)))

waited_within : (s : Sampler) (level : Bool) (f : Setting) → Within s → Next (waited s level f)
unfolding waited
waited_within s level f h =
    let l = h.left in
    pick_all Next level _ _
    (pick_all Next f.sixteen _ _
    (pick_all Next (eqb s.left.0 0) _ _ (hunting_within true) (empty_within 4 false _ (omega arith) (omega arith)))
    (hunting_within true))
    (empty_within 4 false _ (omega arith) (omega arith))

sample_within : (s : Sampler) (level : Bool) (f : Setting) → Within s → setting_in_range f ≡ true → Within (sample_of s level f).next
unfolding sample_of
sample_within s level f h k =
    pick_all Next (eqb s.phase 1) _ _ (looked_again_within s level h)
    (pick_all Next (eqb s.phase 2) _ _ (assembled_within s level h)
    (pick_all Next (eqb s.phase 3) _ _ (followed_within s level f h k)
    (pick_all Next (eqb s.phase 4) _ _ (waited_within s level f h)
    (hunted_within s level f k))))

-- ---- the tests of specs/Sound, and the inequalities ----

sampler_told : (s : Sampler) → sampler_in_range s ≡ true → Within s
sampler_told s e =
    let a = (and-eq-true_iff (leb s.phase 4) _).0 e in
    let b = (and-eq-true_iff (leb s.left.0 15) _).0 a.1 in
    let c = (and-eq-true_iff (setting_in_range s.setting) _).0 b.1 in
    let d = (and-eq-true_iff (leb s.taken.0 9) _).0 c.1 in
    record {
      phase = leb-true s.phase 4 a.0;
      left = leb-true s.left.0 15 b.0;
      setting = c.0;
      taken = leb-true s.taken.0 9 d.0;
      value = leb-true s.value 511 d.1;
    }

sampler_shown : (s : Sampler) → Within s → sampler_in_range s ≡ true
sampler_shown s h = rw (le-leb _ _ h.phase, le-leb _ _ h.left, h.setting, le-leb _ _ h.taken, le-leb _ _ h.value)

pub sample_keeps : (s : Sampler) (level : Bool) (f : Setting) → sampler_in_range s ≡ true → setting_in_range f ≡ true → sampler_in_range (sample_of s level f).next ≡ true
sample_keeps s level f h k = sampler_shown (sample_of s level f).next (sample_within s level f (sampler_told s h) k)

pub hunting_keeps : (high : Bool) → sampler_in_range (hunting high) ≡ true
hunting_keeps high = sampler_shown (hunting high) (hunting_within high)
