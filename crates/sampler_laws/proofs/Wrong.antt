-- The sampling rule shuts out wrong ways to put characters together, and what is said of enable and disable and of break change wrong samplers: each law is
-- taken at a few pulses, where what the wrong one gives and what the law says are computed, and differ. Assumes nothing.
use Prim.Native.Nat.{◌-◌, ◌≤◌}
use mathlib.Core.Path.{refl, sym, ap}
use mathlib.Core.Bool.{Bool, true, false, not, ◌&&◌, true≢false}
use mathlib.Core.List.{List, [], ◌∷◌, ◌++◌}
use native.Mathlib.Omega.{arith}
use borrow.Author.Tests.{eqb-false}
use lib.Dec.{eqb}
use lib.ListN.{length, get_or, replicate}
use Rattle.std.specs.Prelude.{option_to_list}
use Rattle.format.specs.Format.{format_of}
use Rattle.format.specs.Pick.{pick}
use Rattle.character.specs.declared.character.Character.{Character}
use Rattle.character.specs.Character.{no_character}
use Rattle.sampler_state.specs.declared.state.Sampler.{Sampler}
use Rattle.sampler_state.specs.State.{hunting, assembling}
use Rattle.feed.specs.declared.feed.Setting.{Setting}
use Rattle.sampler_hunting.specs.declared.hunting.Sampled.{Sampled}
use Rattle.sampler.specs.Lines.{at16, hears, arrivals}
use Rattle.sampler.specs.Lines.Line.{pulse, enable, disable}
use Rattle.sampler_laws.specs.Sampling.{Found, Assembly, Sixteen, Samples, Enables, Flags, BreakChange}
use Rattle.sampler.proofs.Computing.{computing}

-- nothing is put together
abbrev none : Assembly
none ls = []

-- "Then one sample each 16 pulses": the first comes 15 pulses after the start is confirmed, so that all come a pulse early
abbrev earlier : Sampled → Sampler
earlier x =
    let s : Sampler = x.next in
    pick x.started (assembling s.setting (record { 0 = s.left.0 - 1 }) s.taken s.value) s

abbrev early_from : Sampler → Assembly
early_from s [] = []
early_from s (x ∷ xs) = option_to_list (hears s x).came ++ early_from (earlier (hears s x)) xs

abbrev early : Assembly
early = early_from (hunting true)

-- "at p+8 it must still be low, else hunt again": a low at p is enough
abbrev unseen_from : Sampler → Assembly
unseen_from s [] = []
unseen_from s (pulse level f ∷ xs) =
    let x : Sampled = hears s (pulse (level && not (eqb s.phase 1)) f) in
    option_to_list x.came ++ unseen_from x.next xs
unseen_from s (enable ∷ xs) = unseen_from (hears s enable).next xs
unseen_from s (disable ∷ xs) = unseen_from (hears s disable).next xs

-- "A receiver just enabled must sample a high before a low counts": a low counts at once
abbrev at_once : Assembly
at_once = arrivals (hunting true)

-- "break change set": it never is
abbrev no_flags : Flags
no_flags ls = replicate (length ls) false

-- ---- the pulses: five data bits, no parity ----

abbrev setting : Setting
setting = at16 (format_of 16)

abbrev broken : Found
broken = replicate 104 (false, setting)

-- low to p+23, high from p+24
abbrev found : Found
found = replicate 23 (false, setting) ++ replicate 81 (true, setting)

-- low to p+7, high from p+8
abbrev short : Found
short = replicate 7 (false, setting) ++ (true, setting) ∷ []

abbrev highs : Found
highs = replicate 96 (true, setting)

-- ---- shut out ----

five_eight : 5 ≤ 8
five_eight = omega arith

pub record WrongSampling : Type 0 where
  pub no_none : Samples none → ⊥
  pub no_early : Samples early → ⊥
  pub no_unseen : Samples (unseen_from (hunting true)) → ⊥
  pub no_at_once : Enables (arrivals (hunting true)) at_once → ⊥
  pub no_no_flags : BreakChange no_flags → ⊥

pub wrong_sampling : WrongSampling
unfolding computing arrivals
wrong_sampling =
    record {
      no_none = λ h. eqb-false 0 1 refl (ap length (h.sixteen setting found [] frame (λ e. refl)));
      no_early = λ h. eqb-false 30 31 refl (ap (λ (l : List Character). (get_or l 0 no_character).byte) (h.sixteen setting found [] frame (λ e. refl)));
      no_unseen = λ h. eqb-false 1 0 refl (ap length (h.none setting short highs refl refl refl));
      no_at_once = λ h. eqb-false 1 0 refl (ap length (h.none (replicate 105 (false, setting)) refl));
      no_no_flags = λ h. true≢false
          (sym (ap (λ (l : List Bool). get_or l 104 false)
          (h.sixteen setting setting broken [] (replicate 7 (true, setting)) sixteen refl refl refl refl refl refl)));
    }
  where
    sixteen : Sixteen setting broken
    sixteen = record { sixteen = refl; width = five_eight; low = refl; end = refl }

    frame : Sixteen setting found
    frame = record { sixteen = refl; width = five_eight; low = refl; end = refl }
