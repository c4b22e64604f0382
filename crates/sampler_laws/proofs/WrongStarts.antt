-- What is said of confirmed starts, of break change and of how long a break lasts shuts out wrong samplers, each the right one but for one fault: each law is
-- taken at a few pulses, where what the wrong one gives and what the law says are computed, and differ. Assumes nothing.
use Prim.Native.Nat.{ℕ, ◌-◌, ◌≤◌}
use mathlib.Core.Path.{◌≡◌, refl, sym, ap}
use mathlib.Core.Bool.{Bool, true, false, not, ◌&&◌, ◌||◌, true≢false, false≢true}
use mathlib.Core.List.{List, [], ◌∷◌, ◌++◌}
use native.Mathlib.Omega.{arith}
use borrow.Author.Tests.{eqb-false}
use lib.Dec.{eqb, ltb}
use lib.ListN.{length, get_or, replicate}
use Rattle.std.specs.Prelude.{option_to_list}
use Rattle.format.specs.Format.{format_of}
use Rattle.format.specs.Pick.{pick}
use Rattle.sampler_state.specs.declared.state.Sampler.{Sampler}
use Rattle.sampler_state.specs.State.{hunting, in_break}
use Rattle.feed.specs.declared.feed.Setting.{Setting}
use Rattle.sampler_hunting.specs.declared.hunting.Sampled.{Sampled}
use Rattle.sampler_hunting.specs.Hunting.{still}
use Rattle.sampler.specs.Lines.{Line, hears}
use Rattle.sampler.specs.Lines.Line.{pulse, enable, disable}
use Rattle.sampler_laws.specs.Sampling.{Found, Assembly, Flags, Sixteen}
use Rattle.sampler_laws.specs.Breaks.{One, Breaks}
use Rattle.sampler_laws.specs.Breaks.Broken.{broken16, broken1}
use Rattle.sampler_laws.specs.Breaks.Stopped.{stopped1}
use Rattle.sampler_laws.specs.Confirms.{Confirms, Changes}
use Rattle.sampler.proofs.Computing.{computing}

-- ---- wrong ways to answer a pulse ----

abbrev Way : Type 0
Way = Sampler → Bool → Setting → Sampled

-- the right one
abbrev right : Way
right s level f = hears s (pulse level f)

abbrev started : Bool → Sampled → Sampled
started b x = record { next = x.next; started = b; came = x.came; change = x.change }

abbrev changed : Bool → Sampled → Sampled
changed b x = record { next = x.next; started = x.started; came = x.came; change = b }

-- "at p+8 it must still be low, else hunt again": a high there confirms a start too, and the one that waits is lost
abbrev false_start : Way
false_start s level f = started ((right s level f).started || (eqb s.phase 1 && eqb s.left.0 0)) (right s level f)

-- "hunting waits for 8 high pulses in a row, then break change is set again": the end of a break is told as a start
abbrev break_end : Way
break_end s level f = started ((right s level f).started || (eqb s.phase 4 && (right s level f).change)) (right s level f)

-- "A confirmed start while one waits": there never is one
abbrev never : Way
never s level f = started false (right s level f)

-- "at p+8 it must still be low": the start is told at p
abbrev at_p : Way
at_p s level f = started (not (eqb s.phase 1) && ((right s level f).started || eqb (right s level f).next.phase 1)) (right s level f)

-- "the last of them counts as a new low at p": the first low after a low stop is told as a start
abbrev after_stop : Way
after_stop s level f = started ((right s level f).started || (eqb s.phase 3 && not level)) (right s level f)

-- "A receiver just enabled must sample a high before a low counts": the low is not heard, and yet told as a start
abbrev enabled_low : Way
enabled_low s level f = started ((right s level f).started || (eqb s.phase 0 && (not s.high && not level))) (right s level f)

-- "8 high pulses in a row": after a 1X break the first high at 16X ends it
abbrev one_xbreak : Way
one_xbreak s level f =
    let x : Sampled = right s level f in
    pick (eqb s.phase 2 && (x.change && not s.setting.sixteen))
    (record { next = in_break 0; started = x.started; came = x.came; change = x.change }) x

-- "one high ends a break": not where some at 16X came before it
abbrev mixed : Way
mixed s level f =
    pick (eqb s.phase 4 && (level && (not f.sixteen && (ltb 0 s.left.0 && ltb s.left.0 7)))) (still (in_break (s.left.0 - 1)))
    (right s level f)

-- "8 high pulses in a row, then break change is set again": at a low that interrupts some
abbrev interrupted : Way
interrupted s level f = changed ((right s level f).change || (eqb s.phase 4 && (not level && ltb s.left.0 7))) (right s level f)

-- "else hunt again": a false start sets break change
abbrev false_change : Way
false_change s level f = changed ((right s level f).change || (eqb s.phase 1 && (level && eqb s.left.0 0))) (right s level f)

-- "All bits, parity and stop low": every 1X character sets it
abbrev one_xchange : Way
one_xchange s level f =
    changed ((right s level f).change || (eqb s.phase 2 && (not s.setting.sixteen && not (eqb (right s level f).next.phase 2)))) (right s level f)

-- ---- a way run alone ----

abbrev heard_by : Way → Sampler → Line → Sampled
heard_by w s (pulse level f) = w s level f
heard_by w s enable = hears s enable
heard_by w s disable = hears s disable

abbrev arrive_by : Way → Sampler → Assembly
arrive_by w s [] = []
arrive_by w s (x ∷ xs) = option_to_list (heard_by w s x).came ++ arrive_by w (heard_by w s x).next xs

abbrev tell_by : (Sampled → Bool) → Way → Sampler → Flags
tell_by q w s [] = []
tell_by q w s (x ∷ xs) = q (heard_by w s x) ∷ tell_by q w (heard_by w s x).next xs

abbrev Starts : Way → Type 0
Starts w = Confirms (tell_by (λ (x : Sampled). x.started) w (hunting true)) (tell_by (λ (x : Sampled). x.started) w (hunting false))

abbrev Sets : Way → Type 0
Sets w = Changes (tell_by (λ (x : Sampled). x.change) w (hunting true)) (tell_by (λ (x : Sampled). x.change) w (hunting false))

abbrev Lasts : Way → Type 0
Lasts w = Breaks (arrive_by w (hunting true))

-- ---- the pulses: five data bits, no parity, at 16X and at 1X ----

abbrev fast : Setting
fast = record { format = format_of 16; sixteen = true }

abbrev slow : Setting
slow = record { format = format_of 16; sixteen = false }

-- low to p+7, high at p+8
abbrev short : Found
short = replicate 7 (false, fast) ++ (true, fast) ∷ []

-- 30 with a low stop; a break, and one at 1X; ones at 1X
abbrev unstopped : Found
unstopped = replicate 24 (false, fast) ++ replicate 64 (true, fast) ++ replicate 16 (false, fast)

abbrev broken : Found
broken = replicate 104 (false, fast)

abbrev broken_once : Found
broken_once = replicate 6 (false, slow)

abbrev once : Found
once = replicate 6 (true, slow)

-- ---- shut out ----

five_eight : 5 ≤ 8
five_eight = omega arith

of_broken : Sixteen fast broken
unfolding computing
of_broken = record { sixteen = refl; width = five_eight; low = refl; end = refl }

of_unstopped : Sixteen fast unstopped
unfolding computing
of_unstopped = record { sixteen = refl; width = five_eight; low = refl; end = refl }

of_one : (ls : Found) → length ls ≡ 6 → One slow ls
unfolding computing
of_one ls l = record { one = refl; width = five_eight; end = l }

at : ℕ → List Bool → Bool
at i l = get_or l i false

pub record WrongStarts : Type 0 where
  pub no_false_start : Starts false_start → ⊥
  pub no_break_end : Starts break_end → ⊥
  pub no_never : Starts never → ⊥
  pub no_at_p : Starts at_p → ⊥
  pub no_after_stop : Starts after_stop → ⊥
  pub no_enabled_low : Starts enabled_low → ⊥
  pub no_one_xbreak : Lasts one_xbreak → ⊥
  pub no_mixed : Lasts mixed → ⊥
  pub no_interrupted : Sets interrupted → ⊥
  pub no_false_change : Sets false_change → ⊥
  pub no_one_xchange : Sets one_xchange → ⊥

pub wrong_starts : WrongStarts
unfolding computing at
wrong_starts =
    record {
      no_false_start = λ h. true≢false (ap (at 8) (h.none fast short [] refl refl refl));
      no_break_end = λ h. true≢false
          (ap (at 112) (h.ends fast fast broken [] (replicate 7 (true, fast)) [] (broken16 of_broken refl) refl refl (λ e. refl)));
      no_never = λ h. false≢true
          (ap (at 8) (h.sixteen fast (replicate 8 (false, fast)) refl five_eight refl (omega arith) (omega arith)));
      no_at_p = λ h. true≢false (ap (at 0) (h.sixteen fast (replicate 8 (false, fast)) refl five_eight refl (omega arith) (omega arith)));
      no_after_stop = λ h. true≢false
          (ap (at 105) (h.fewer fast unstopped ((false, fast) ∷ []) (record { made = of_unstopped; low = refl; some = refl }) refl (omega arith)));
      no_enabled_low = λ h. true≢false (ap (at 0) (h.lows ((false, fast) ∷ []) refl));
      -- the 1X break, one high, and lows enough for another break
      no_one_xbreak = λ h. eqb-false 2 1 refl
          (ap length (h.lasts slow broken_once (((true, fast) ∷ [], fast) ∷ replicate 105 ([], fast)) [] (broken1 (of_one broken_once refl) refl) refl refl));
      -- three highs at 16X, one at 1X, and a character at 1X, which is lost
      no_mixed = λ h. eqb-false 1 2 refl
          (ap length (h.ends fast slow broken [] (replicate 3 (true, fast)) ((false, slow) ∷ once) (broken16 of_broken refl) refl refl (λ e. absurd (true≢false (sym e)))));
      no_interrupted = λ h. true≢false
          (ap (at 108) (h.lasts fast broken ((replicate 3 (true, fast), fast) ∷ []) [] (broken16 of_broken refl) refl refl));
      no_false_change = λ h. true≢false (ap (at 8) (h.none fast short [] refl refl refl));
      no_one_xchange = λ h. true≢false (ap (at 6) (h.stopped slow once [] (stopped1 (of_one once refl) refl)));
    }
