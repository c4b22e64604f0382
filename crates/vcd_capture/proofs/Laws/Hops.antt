-- Pulses that only pass: each leaves the receiver where it was but for the count, by induction on their number. Assumes nothing.
use Prim.Native.Nat.{ℕ, zero, suc, ◌+◌, ◌-◌, ◌≤◌, ◌<◌}
use mathlib.Core.Path.{◌≡◌, refl, sym, ◌∙◌, ap}
use mathlib.Core.Bool.{Bool, true, false, not, ◌||◌, false≢true}
use mathlib.Core.List.{List, [], ◌∷◌, ◌++◌, append_assoc, append-nil}
use native.Mathlib.Omega.{arith}
use borrow.Author.Tests.{eq-eqb, ne_eqb}
use Rattle.std.specs.Prelude.{option_to_list}
use Rattle.format.specs.Pick.{pick}
use Rattle.feed.specs.declared.feed.Setting.{Setting}
use Rattle.sampler_state.specs.declared.state.Sampler.{Sampler}
use Rattle.sampler_state.specs.State.{hunting, starting, assembling, in_break}
use Rattle.sampler_hunting.specs.declared.hunting.Sampled.{Sampled}
use Rattle.sampler_hunting.specs.Hunting.{still, low_at, hunted, looked_again, followed, waited}
use Rattle.sampler.specs.Sampler.{sampled, assembled, sample_of}
use Rattle.sampler.specs.Lines.{hears, after_lines, arrivals}
use Rattle.sampler.specs.Lines as Hearing
use Rattle.vcd_capture.specs.declared.hops.Hopped.{Hopped}
use Rattle.vcd_capture.specs.Ear.{pulses_at}
use Rattle.vcd_capture.specs.Hops.{one_pulse, staying, fewer, fewer_left, Hops}

-- ---- one list of pulses after the other ----

pub after_append : (s : Sampler) (xs ys : List Hearing.Line) → after_lines s (xs ++ ys) ≡ after_lines (after_lines s xs) ys
unfolding after_lines
after_append s [] ys = refl
after_append s (x ∷ xs) ys = after_append (hears s x).next xs ys

pub arrivals_append : (s : Sampler) (xs ys : List Hearing.Line) → arrivals s (xs ++ ys) ≡ arrivals s xs ++ arrivals (after_lines s xs) ys
unfolding arrivals after_lines
arrivals_append s [] ys = refl
arrivals_append s (x ∷ xs) ys =
    rw (arrivals_append (hears s x).next xs ys) (sym (append_assoc (option_to_list (hears s x).came) _ _))

module _ (level : Bool) (f : Setting) where
  pulses_append : (m n : ℕ) → pulses_at (m + n) level f ≡ pulses_at m level f ++ pulses_at n level f
  pulses_append zero n = let z : 0 + n ≡ n = omega arith in rw z
  pulses_append (suc m) n = let z : suc m + n ≡ suc (m + n) = omega arith in rw (z, pulses_append m n)

  -- some of the pulses that are left
  pub hop-turn : (s : Sampler) (left : ℕ) (r : Hopped) → Hops s level f left r
      → (after_lines s (pulses_at left level f) ≡ after_lines r.sampler (pulses_at (left - r.pulses) level f))
      × (arrivals s (pulses_at left level f) ≡ option_to_list r.came ++ arrivals r.sampler (pulses_at (left - r.pulses) level f))
  hop-turn s left r h =
      let few = h.few in
      let rest = pulses_at (left - r.pulses) level f in
      let first = pulses_at r.pulses level f in
      let parts : left ≡ r.pulses + (left - r.pulses) = omega arith in
      let split : pulses_at left level f ≡ first ++ rest =
      ap (λ (n : ℕ). pulses_at n level f) parts ∙ pulses_append r.pulses (left - r.pulses) in (
        ap (after_lines s) split ∙ after_append s first rest ∙ ap (λ (t : Sampler). after_lines t rest) (sym h.sampler),
        ap (arrivals s) split ∙ arrivals_append s first rest
            ∙ rw (h.came, h.sampler),
      )

  -- ---- pulses that only pass ----

  abbrev Passes : Sampler → ℕ → Sampler → Type 0
  Passes s n t = (after_lines s (pulses_at n level f) ≡ t) × (arrivals s (pulses_at n level f) ≡ [])

  passes_none : (s : Sampler) → Passes s 0 s
  unfolding after_lines arrivals
  passes_none s = (refl, refl)

  one-after : (s : Sampler) (n : ℕ) → after_lines s (pulses_at (suc n) level f) ≡ after_lines (sample_of s level f).next (pulses_at n level f)
  unfolding after_lines hears
  one-after s n = refl

  one-arrives : (s : Sampler) (n : ℕ)
      → arrivals s (pulses_at (suc n) level f) ≡ option_to_list (sample_of s level f).came ++ arrivals (sample_of s level f).next (pulses_at n level f)
  unfolding arrivals hears
  one-arrives s n = refl

  passes-next : (s t u : Sampler) (n : ℕ) → sample_of s level f ≡ still t → Passes t n u → Passes s (suc n) u
  passes-next s t u n e (a, b) = (one-after s n ∙ rw e a, one-arrives s n ∙ rw e b)

  pub passed : (s t : Sampler) (n most : ℕ) → 0 < n → n ≤ most → Passes s n t → Hops s level f most (staying t n)
  passed s t n most l m (a, b) = record { some = l; few = m; sampler = sym a; came = sym b }

  pub one-hops : (s : Sampler) (most : ℕ) → 0 < most → Hops s level f most (one_pulse (sample_of s level f))
  unfolding after_lines arrivals hears
  one-hops s most l =
      record { some = omega arith; few = omega arith; sampler = refl; came = sym (append-nil (option_to_list (sample_of s level f).came)) }

  -- ---- a start, and a character ----

  start-waits : (s : Sampler) → s.phase ≡ 1 → 0 < s.left.0 → sample_of s level f ≡ still (starting s.setting (record { 0 = s.left.0 - 1 }))
  unfolding sample_of looked_again pick
  start-waits s h l = rw (eq-eqb s.phase 1 h, ne_eqb s.left.0 0 (λ (z : s.left.0 ≡ 0). omega arith))

  start-passes : (n : ℕ) (s : Sampler) → s.phase ≡ 1 → suc n ≤ s.left.0
      → Passes s (suc n) (starting s.setting (record { 0 = s.left.0 - suc n }))
  start-passes zero s h l = passes-next s _ _ 0 (start-waits s h (omega arith)) (passes_none _)
  start-passes (suc n) s h l =
      let e : s.left.0 - suc (suc n) ≡ s.left.0 - 1 - suc n = omega arith in
      rw e (passes-next s _ _ (suc n) (start-waits s h (omega arith))
      (start-passes n (starting s.setting (record { 0 = s.left.0 - 1 })) refl (omega arith)))

  bit-waits : (s : Sampler) → s.phase ≡ 2 → 0 < s.left.0
      → sample_of s level f ≡ still (assembling s.setting (record { 0 = s.left.0 - 1 }) s.taken s.value)
  unfolding sample_of assembled pick
  bit-waits s h l = rw (h, ne_eqb s.left.0 0 (λ (z : s.left.0 ≡ 0). omega arith))

  bit-passes : (n : ℕ) (s : Sampler) → s.phase ≡ 2 → suc n ≤ s.left.0
      → Passes s (suc n) (assembling s.setting (record { 0 = s.left.0 - suc n }) s.taken s.value)
  bit-passes zero s h l = passes-next s _ _ 0 (bit-waits s h (omega arith)) (passes_none _)
  bit-passes (suc n) s h l =
      let e : s.left.0 - suc (suc n) ≡ s.left.0 - 1 - suc n = omega arith in
      rw e (passes-next s _ _ (suc n) (bit-waits s h (omega arith))
      (bit-passes n (assembling s.setting (record { 0 = s.left.0 - 1 }) s.taken s.value) refl (omega arith)))

  -- as many as there are before the one that decides
  fewer-hops : (s : Sampler) (to : ℕ → Sampler) (most : ℕ) → 0 < s.left.0 → 0 < most
      → ((n : ℕ) → suc n ≤ s.left.0 → Passes s (suc n) (to (s.left.0 - suc n)))
      → Hops s level f most (staying (to (s.left.0 - most)) (fewer s.left most))
  fewer-hops s to most l m pass =
      let n : ℕ = fewer s.left most in
      let rest : s.left.0 - most ≡ s.left.0 - n = omega arith in
      rw rest (passed s (to (s.left.0 - n)) n most (omega arith) (omega arith) (by n (omega arith) (omega arith)))
    where
      by : (n : ℕ) → 0 < n → n ≤ s.left.0 → Passes s n (to (s.left.0 - n))
      by zero z h = absurd (omega arith)
      by (suc n) z h = pass n h

  pub start-hops : (s : Sampler) (most : ℕ) → s.phase ≡ 1 → 0 < s.left.0 → 0 < most
      → Hops s level f most (staying (starting s.setting (fewer_left s.left most)) (fewer s.left most))
  start-hops s most h l m =
      fewer-hops s (λ (k : ℕ). starting s.setting (record { 0 = k })) most l m (λ (n : ℕ) (b : suc n ≤ s.left.0). start-passes n s h b)

  pub bit-hops : (s : Sampler) (most : ℕ) → s.phase ≡ 2 → 0 < s.left.0 → 0 < most
      → Hops s level f most (staying (assembling s.setting (fewer_left s.left most) s.taken s.value) (fewer s.left most))
  bit-hops s most h l m =
      fewer-hops s (λ (k : ℕ). assembling s.setting (record { 0 = k }) s.taken s.value) most l m
      (λ (n : ℕ) (b : suc n ≤ s.left.0). bit-passes n s h b)

  pub sample-bit : (s : Sampler) → s.phase ≡ 2 → s.left.0 ≡ 0 → sample_of s level f ≡ sampled s level
  unfolding sample_of assembled pick
  sample-bit s h z = rw (h, z)

-- ---- a break, and where a receiver hunts ----

module _ (f : Setting) where
  break_waits : (s : Sampler) → s.phase ≡ 4 → sample_of s false f ≡ still (in_break 7)
  unfolding sample_of waited pick
  break_waits s h = rw h

  break-passes : (n : ℕ) (s : Sampler) → s.phase ≡ 4 → Passes false f s (suc n) (in_break 7)
  break-passes zero s h = passes-next false f s _ _ 0 (break_waits s h) (passes_none false f _)
  break-passes (suc n) s h = passes-next false f s _ _ (suc n) (break_waits s h) (break-passes n (in_break 7) refl)

  abbrev Hunts : Sampler → Type 0
  Hunts s = (s.phase ≡ 1 → ⊥) × (s.phase ≡ 2 → ⊥) × (s.phase ≡ 3 → ⊥) × (s.phase ≡ 4 → ⊥)

  pub sample-hunts : (s : Sampler) (level : Bool) → Hunts s → sample_of s level f ≡ hunted s level f
  unfolding sample_of pick
  sample-hunts s level (a, b, c, d) = rw (ne_eqb s.phase 1 a, ne_eqb s.phase 2 b, ne_eqb s.phase 3 c, ne_eqb s.phase 4 d)

  hunt-waits : (s : Sampler) (level : Bool) → Hunts s → (level || not s.high) ≡ true → sample_of s level f ≡ still (hunting level)
  unfolding hunted pick
  hunt-waits s true h e = rw (sample-hunts s true h)
  hunt-waits s false h e = rw (sample-hunts s false h) (low s.high e)
    where
      low : (high : Bool) → not high ≡ true → pick high (low_at f) (still (hunting false)) ≡ still (hunting false)
      low false e = refl
      low true e = absurd (false≢true e)

  hunt-passes : (n : ℕ) (s : Sampler) (level : Bool) → Hunts s → (level || not s.high) ≡ true → Passes level f s (suc n) (hunting level)
  hunt-passes zero s level h e = passes-next level f s _ _ 0 (hunt-waits s level h e) (passes_none level f _)
  hunt-passes (suc n) s level h e =
      passes-next level f s _ _ (suc n) (hunt-waits s level h e) (hunt-passes n (hunting level) level hunts-still (same level))
    where
      hunts-still : Hunts (hunting level)
      hunts-still = (λ (z : ◌≡◌ {A = ℕ} 0 1). omega arith, λ (z : ◌≡◌ {A = ℕ} 0 2). omega arith, λ (z : ◌≡◌ {A = ℕ} 0 3). omega arith, λ (z : ◌≡◌ {A = ℕ} 0 4). omega arith)

      same : (l : Bool) → (l || not l) ≡ true
      same true = refl
      same false = refl

  -- however many there are
  pub break-hops : (s : Sampler) (level : Bool) (most : ℕ) → s.phase ≡ 4 → level ≡ false → 0 < most
      → Hops s level f most (staying (in_break 7) most)
  break-hops s level zero h e m = absurd (omega arith)
  break-hops s level (suc n) h e m = rw e (passed false f s _ (suc n) (suc n) m (omega arith) (break-passes n s h))

  pub hunt-hops : (s : Sampler) (level : Bool) (most : ℕ) → Hunts s → (level || not s.high) ≡ true → 0 < most
      → Hops s level f most (staying (hunting level) most)
  hunt-hops s level zero h e m = absurd (omega arith)
  hunt-hops s level (suc n) h e m = passed level f s _ (suc n) (suc n) m (omega arith) (hunt-passes n s level h e)

  -- ---- one pulse, by what the receiver does ----

  pub sample-starts : (s : Sampler) (level : Bool) → s.phase ≡ 1 → sample_of s level f ≡ looked_again s level
  unfolding sample_of pick
  sample-starts s level h = rw h

  pub sample-follows : (s : Sampler) (level : Bool) → s.phase ≡ 3 → sample_of s level f ≡ followed s level f
  unfolding sample_of pick
  sample-follows s level h = rw h

  pub sample-waits : (s : Sampler) (level : Bool) → s.phase ≡ 4 → sample_of s level f ≡ waited s level f
  unfolding sample_of pick
  sample-waits s level h = rw h

pub hops_as : {s : Sampler} {level : Bool} {f : Setting} {most : ℕ} {r x : Hopped} → r ≡ x → Hops s level f most x → Hops s level f most r
hops_as {s} {level} {f} {most} e h = rw e h

pub one_as : {s : Sampler} {level : Bool} {f : Setting} {most : ℕ} {r : Hopped} {x : Sampled} → r ≡ one_pulse x → x ≡ sample_of s level f → 0 < most
    → Hops s level f most r
one_as {s} {level} {f} {most} e h m = hops_as (e ∙ ap one_pulse h) (one-hops level f s most m)
