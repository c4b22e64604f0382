-- Enable and disable. Until a high is sampled every low leaves the sampler as it was; at an enable or a disable nothing arrives, and the sampler that is left
-- is the one that was just enabled, whatever it was. Assumes nothing.
use mathlib.Core.Path.{◌≡◌, refl, sym, ap, ◌∙◌}
use mathlib.Core.Bool.{true, false, true≢false}
use mathlib.Core.List.{List, [], ◌∷◌, ◌++◌, append_assoc, append-nil}
use Rattle.format.specs.Pick.{pick}
use Rattle.feed.specs.declared.feed.Setting.{Setting}
use Rattle.sampler_state.specs.declared.state.Sampler.{Sampler}
use Rattle.sampler_state.specs.State.{hunting}
use Rattle.sampler_hunting.specs.Hunting.{still, hunted}
use Rattle.sampler.specs.Sampler.{sample_of}
use Rattle.sampler.specs.Lines.{Line, hears, arrivals}
use Rattle.sampler.specs.Lines.Line.{pulse, enable, disable}
use Rattle.sampler_laws.specs.Sampling.{Found, lines, all_at, Enables}

-- the lows of one that was just enabled
lows_unheard : (lows : Found) (more : List Line) → all_at false lows ≡ true → arrivals (hunting false) (lines lows ++ more) ≡ arrivals (hunting false) more
unfolding arrivals hears sample_of hunted pick
lows_unheard [] more a = refl
lows_unheard ((true, f) ∷ lows) more a = absurd (true≢false (sym a))
lows_unheard ((false, f) ∷ lows) more a = lows_unheard lows more a

none_rule : (lows : Found) → all_at false lows ≡ true → arrivals (hunting false) (lines lows) ≡ []
unfolding arrivals
none_rule lows a = ap (arrivals (hunting false)) (sym (append-nil (lines lows))) ∙ lows_unheard lows [] a

waits_rule : (g : Setting) (lows rest : Found) → all_at false lows ≡ true
    → arrivals (hunting false) (lines lows ++ pulse true g ∷ lines rest) ≡ arrivals (hunting true) (lines rest)
unfolding arrivals hears sample_of hunted pick
waits_rule g lows rest a = rw (lows_unheard lows (pulse true g ∷ lines rest) a)

-- a line that leaves every sampler as one that was just enabled, and of which nothing comes
parted : (x : Line) → ((s : Sampler) → hears s x ≡ still (hunting false)) → (s : Sampler) (xs ys : List Line)
    → arrivals s (xs ++ x ∷ ys) ≡ arrivals s xs ++ arrivals (hunting false) ys
unfolding arrivals
parted x h s [] ys = rw (h s)
parted x h s (y ∷ xs) ys = rw (parted x h (hears s y).next xs ys, append_assoc)

drops_rule : (xs ys : List Line) → arrivals (hunting false) (xs ++ disable ∷ ys) ≡ arrivals (hunting false) xs ++ arrivals (hunting false) ys
unfolding hears
drops_rule = parted disable (λ s. refl) (hunting false)

enables_again_rule : (xs ys : List Line) → arrivals (hunting false) (xs ++ enable ∷ ys) ≡ arrivals (hunting false) xs ++ arrivals (hunting false) ys
unfolding hears
enables_again_rule = parted enable (λ s. refl) (hunting false)

pub enables_rule : Enables (arrivals (hunting true)) (arrivals (hunting false))
enables_rule = record { none = none_rule; waits = waits_rule; drops = drops_rule; enables = enables_again_rule }
