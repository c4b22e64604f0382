-- What a sampler hears after a low stop, and in a break: lows and highs are counted down, one pulse at a time, until one of them is a start or ends the
-- wait. Assumes nothing.
use Prim.Native.Nat.{ℕ, zero, suc, ◌-◌, ◌≤◌}
use mathlib.Core.Path.{◌≡◌, refl, sym}
use mathlib.Core.Bool.{true, false, and-eq-true_iff, true≢false}
use mathlib.Core.List.{List, [], ◌∷◌, ◌++◌}
use native.Mathlib.Omega.{arith}
use lib.ListN.{length}
use borrow.Author.Tests.{ne_eqb}
use Rattle.format.specs.Pick.{pick}
use Rattle.feed.specs.declared.feed.Setting.{Setting}
use Rattle.sampler_state.specs.State.{hunting, after_low_stop, in_break}
use Rattle.sampler_hunting.specs.Hunting.{hunted, followed, waited}
use Rattle.sampler.specs.Sampler.{sample_of}
use Rattle.sampler.specs.Lines.{Line, hears, arrivals}
use Rattle.sampler.specs.Lines.Line.{pulse}
use Rattle.sampler_laws.specs.Sampling.{Found, lines, all_at, all_sixteen}

-- the lows after a low stop, and then the one that is p
pub lows_again : (n : ℕ) (g : Setting) (lows : Found) (more : List Line) → all_at false lows ≡ true → length lows ≡ n
    → arrivals (after_low_stop n) (lines lows ++ pulse false g ∷ more) ≡ arrivals (hunting true) (pulse false g ∷ more)
unfolding arrivals hears sample_of hunted followed pick
lows_again zero g [] more a l = refl
lows_again (suc n) g [] more a l = absurd (omega arith)
lows_again n g ((true, f) ∷ lows) more a l = absurd (true≢false (sym a))
lows_again zero g ((false, f) ∷ lows) more a l = absurd (omega arith)
lows_again (suc n) g ((false, f) ∷ lows) more a l =
    let d : suc n - 1 ≡ n = omega arith in
    rw (ne_eqb (suc n) 0 (λ q. omega arith), d) (lows_again n g lows more a (omega arith))

-- or a high
pub lows_until : (n : ℕ) (g : Setting) (lows : Found) (more : List Line) → all_at false lows ≡ true → length lows ≤ n
    → arrivals (after_low_stop n) (lines lows ++ pulse true g ∷ more) ≡ arrivals (hunting true) more
unfolding arrivals hears sample_of followed pick
lows_until n g [] more a l = refl
lows_until n g ((true, f) ∷ lows) more a l = absurd (true≢false (sym a))
lows_until zero g ((false, f) ∷ lows) more a l = absurd (omega arith)
lows_until (suc n) g ((false, f) ∷ lows) more a l =
    let d : suc n - 1 ≡ n = omega arith in
    rw (ne_eqb (suc n) 0 (λ q. omega arith), d) (lows_until n g lows more a (omega arith))

-- or too few
pub lows_fewer : (n : ℕ) (lows : Found) → all_at false lows ≡ true → length lows ≤ n → arrivals (after_low_stop n) (lines lows) ≡ []
unfolding arrivals hears sample_of followed pick
lows_fewer n [] a l = refl
lows_fewer n ((true, f) ∷ lows) a l = absurd (true≢false (sym a))
lows_fewer zero ((false, f) ∷ lows) a l = absurd (omega arith)
lows_fewer (suc n) ((false, f) ∷ lows) a l =
    let d : suc n - 1 ≡ n = omega arith in
    rw (ne_eqb (suc n) 0 (λ q. omega arith), d) (lows_fewer n lows a (omega arith))

-- at 1X the next low is a start, as after a high
pub next_low : (rest : Found) → arrivals (after_low_stop 0) (lines rest) ≡ arrivals (hunting true) (lines rest)
unfolding arrivals hears sample_of hunted followed pick
next_low [] = refl
next_low ((true, f) ∷ rest) = refl
next_low ((false, f) ∷ rest) = refl

-- the lows of a break that goes on
pub break_lows : (lows : Found) (more : List Line) → all_at false lows ≡ true → arrivals (in_break 7) (lines lows ++ more) ≡ arrivals (in_break 7) more
unfolding arrivals hears sample_of waited pick
break_lows [] more a = refl
break_lows ((true, f) ∷ lows) more a = absurd (true≢false (sym a))
break_lows ((false, f) ∷ lows) more a = break_lows lows more a

-- the highs that end it
pub break_highs : (n : ℕ) (highs : Found) (more : List Line) → all_at true highs ≡ true → all_sixteen highs ≡ true → length highs ≡ suc n
    → arrivals (in_break n) (lines highs ++ more) ≡ arrivals (hunting true) more
unfolding arrivals hears sample_of waited pick
break_highs n [] more a x l = absurd (omega arith)
break_highs n ((false, f) ∷ highs) more a x l = absurd (true≢false (sym a))
break_highs zero ((true, f) ∷ []) more a x l = rw ((and-eq-true_iff f.sixteen _).0 x).0
break_highs zero ((true, f) ∷ h ∷ highs) more a x l = absurd (omega arith)
break_highs (suc n) ((true, f) ∷ highs) more a x l =
    let both = (and-eq-true_iff f.sixteen _).0 x in
    let d : suc n - 1 ≡ n = omega arith in
    rw (both.0, ne_eqb (suc n) 0 (λ q. omega arith), d) (break_highs n highs more a both.1 (omega arith))

-- and too few
pub break_waits : (n : ℕ) (g : Setting) (highs : Found) (more : List Line) → all_at true highs ≡ true → all_sixteen highs ≡ true → length highs ≤ n
    → arrivals (in_break n) (lines highs ++ pulse false g ∷ more) ≡ arrivals (in_break 7) more
unfolding arrivals hears sample_of waited pick
break_waits n g [] more a x l = refl
break_waits n g ((false, f) ∷ highs) more a x l = absurd (true≢false (sym a))
break_waits zero g ((true, f) ∷ highs) more a x l = absurd (omega arith)
break_waits (suc n) g ((true, f) ∷ highs) more a x l =
    let both = (and-eq-true_iff f.sixteen _).0 x in
    let d : suc n - 1 ≡ n = omega arith in
    rw (both.0, ne_eqb (suc n) 0 (λ q. omega arith), d) (break_waits n g highs more a both.1 (omega arith))

-- at 1X one high ends it, however many are still to come
pub break_high : (n : ℕ) (g : Setting) (more : List Line) → g.sixteen ≡ false
    → arrivals (in_break n) (pulse true g ∷ more) ≡ arrivals (hunting true) more
unfolding arrivals hears sample_of waited pick
break_high n g more x = rw x
