-- Wrong answers, each shut out by a definition: a routine that gave it would not meet its contract. Assumes nothing.
use Prim.Native.Nat.{ℕ, ◌%◌, ◌<◌}
use mathlib.Core.Path.{◌≡◌}
use mathlib.Core.Bool.{Bool, true, false, true≢false}
use native.Mathlib.Omega.{arith}
use lib.Dec.{eqb}
use Rattle.format.specs.Pick.{pick}
use Rattle.sampler_state.specs.declared.state.Sampler.{Sampler}
use Rattle.feed.specs.declared.feed.Setting.{Setting}
use Rattle.sampler_state.specs.Assembly.{data_width_of, samples_of, with_sample}
use Rattle.sampler_state.specs.State.{after_stop, assembling}
use Rattle.sampler.specs.Sampler.{finished, sampled}

-- 16X and 8 data bits, with parity 0 (even) or 2 (none): nine samples before the stop, or eight
abbrev eight_bits : ℕ → Setting
eight_bits parity =
    record { format = record { width = record { 0 = 8 }; parity = parity; odd = false }; sixteen = true }

-- so many samples taken, all low
abbrev after : ℕ → ℕ → Sampler
after parity n = assembling (eight_bits parity) (record { 0 = 0 }) (record { 0 = n }) 0

-- "data lowest bit first": the first sample, a high, is bit 0
no_sample_too_high : 2 ≡ (sampled (after 2 0) true).next.value → ⊥
unfolding sampled samples_of data_width_of with_sample pick
no_sample_too_high = omega arith

-- a count past the stop's is at the stop: this one takes a tenth sample
no_sampled_past_stop : ((level : Bool) → 10 ≡ (sampled (after 2 9) level).next.taken.0) → ⊥
unfolding sampled finished after_stop samples_of data_width_of pick
no_sampled_past_stop h = omega (arith, h true)

-- "All bits, parity and stop low": a low stop after a high parity bit is no break
no_break_by_data_alone : ((v : ℕ) → v < 512 → eqb (v % 256) 0 ≡ (finished (eight_bits 0) v false).change) → ⊥
unfolding finished pick
no_break_by_data_alone h = true≢false (h 256 (omega arith))

-- "hunting waits for 8 high pulses in a row"
no_seven_highs_end_break : ((f : Setting) → 6 ≡ (finished f 0 false).next.left.0) → ⊥
unfolding finished pick
no_seven_highs_end_break h = omega (arith, h (eight_bits 2))
