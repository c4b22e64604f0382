-- Wrong answers, each shut out by a definition: a routine that gave it would not meet its contract. Assumes nothing.
use mathlib.Core.Path.{◌≡◌}
use mathlib.Core.Bool.{false, false≢true}
use native.Mathlib.Omega.{arith}
use Rattle.format.specs.Pick.{pick}
use Rattle.sampler_state.specs.declared.state.Sampler.{Sampler}
use Rattle.feed.specs.declared.feed.Setting.{Setting}
use Rattle.sampler_state.specs.State.{no_setting, hunting}
use Rattle.sampler_hunting.specs.Hunting.{low_at, hunted, ended}

-- "at p+8 it must still be low": these look at p+7 and at p+9 (`no_setting` is one of 16X)
no_sampled_at_plus7 : 6 ≡ (low_at no_setting).next.left.0 → ⊥
unfolding low_at pick
no_sampled_at_plus7 = omega arith

no_sampled_at_plus9 : 8 ≡ (low_at no_setting).next.left.0 → ⊥
unfolding low_at pick
no_sampled_at_plus9 = omega arith

-- "A receiver just enabled must sample a high before a low counts"
no_low_without_high : ((s : Sampler) (f : Setting) → (low_at f).next.phase ≡ (hunted s false f).next.phase) → ⊥
unfolding hunted low_at pick
no_low_without_high h = omega (arith, h (hunting false) no_setting)

-- "hunting waits for 8 high pulses in a row": the last of them is a high
no_break_end_no_high : false ≡ ended.next.high → ⊥
no_break_end_no_high = false≢true
