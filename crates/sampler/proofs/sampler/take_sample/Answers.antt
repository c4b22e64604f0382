-- `take_sample` meets its contract: before the stop fewer than nine samples are taken, so that a word holds the power of two and the sum. Assumes nothing.
use Prim.Native.Nat.{ℕ, ◌*◌, ◌%◌, ◌^◌, ◌≤◌, ◌<◌}
use mathlib.Core.Path.{◌≡◌}
use native.Mathlib.Omega.{arith}
use native.Mathlib.Nat.{mod-lt}
use lib.Pow.{pow_pos, pow_mono}
use Rattle.format.proofs.Laws.Digits.{power}
use Rattle.format.proofs.Laws.{steps}
use Rattle.format.specs.declared.counts.Bits.{Bits}
use Rattle.format.specs.declared.format.Format.{Format}
use Rattle.sampler_state.specs.Assembly.{samples_of, with_sample}
use Rattle.sampler_state.proofs.Laws.Assembly.{samples_most}
use Rattle.sampler.specs.Sampler.{sampled}
use Rattle.sampler.proofs.sampler.take_sample.Goals as goal

-- a sample before the stop is at most the ninth
eight : {b : Bits} {k : ℕ} (f : Format) → b ≡ samples_of f → k < b.0 → k ≤ 8
eight {b = b} f e h = let n : b.0 ≤ 9 = rw e (samples_most f) in omega arith

weight_is : (k : ℕ) → k ≤ 8 → 1 * 2 ^ k % 2 ^ 16 ≡ 2 ^ k
weight_is k e = power 16 k (omega arith)

weight_small : (k : ℕ) → k ≤ 8 → 2 ^ k ≤ 256
weight_small k e = pow_mono e

pub overflow_shl-weight : goal.overflow_shl-weight
overflow_shl-weight c =
    let e = eight _ c.samples_before_stop.ensures c.if-taken-samples_before_stop.true in
    omega arith

pub nonzero_rem-below : goal.nonzero_rem-below
nonzero_rem-below c =
    let e = eight _ c.samples_before_stop.ensures c.if-taken-samples_before_stop.true in
    rw (weight_is c.args.sampler.taken.0 e) (pow_pos _)

pub overflow_add-below : goal.overflow_add-below
overflow_add-below c =
    let e = eight _ c.samples_before_stop.ensures c.if-taken-samples_before_stop.true in
    let small = weight_small c.args.sampler.taken.0 e in
    let below = mod-lt c.args.sampler.value (pow_pos c.args.sampler.taken.0) in
    rw (weight_is c.args.sampler.taken.0 e) (omega arith)

pub returns-then-level : goal.returns-then-level
unfolding sampled with_sample
returns-then-level c =
    let e = eight _ c.samples_before_stop.ensures c.if-taken-samples_before_stop.true in
    simp (c.quiet.ensures, c.assembling_at.ensures, c.gap-next.ensures, weight_is c.args.sampler.taken.0 e, ← c.samples_before_stop.ensures) (search steps)

pub returns-then-taken-samples_before_stop : goal.returns-then-taken-samples_before_stop
unfolding sampled with_sample
returns-then-taken-samples_before_stop c =
    let e = eight _ c.samples_before_stop.ensures c.if-taken-samples_before_stop.true in
    simp (c.quiet-then-taken-samples_before_stop.ensures, c.assembling_at-then-taken-samples_before_stop.ensures, c.gap-next.ensures, weight_is c.args.sampler.taken.0 e, ← c.samples_before_stop.ensures) (search steps)

pub returns : goal.returns
unfolding sampled
returns c = simp (c.finish.ensures, ← c.samples_before_stop.ensures) (search steps)
