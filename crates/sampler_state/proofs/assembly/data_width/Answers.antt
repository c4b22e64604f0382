-- `data_width` meets its contract: a width below 8 is itself, any other goes with 8. Assumes nothing.
use Prim.Native.Nat.{ℕ, min, ◌<◌}
use mathlib.Core.Path.{◌≡◌, ap}
use native.Mathlib.Omega.{arith}
use native.Mathlib.Decide.{dec_lt}
use lib.Dec.{ltb}
use borrow.Author.Tests.{lt-ltb, le-ltb}
use Rattle.format.specs.declared.counts.Bits.{Bits}
use Rattle.format.specs.Pick.{pick}
use Rattle.format.proofs.Laws.Pick.{pick_yes, pick_no}
use Rattle.sampler_state.specs.Assembly.{data_width_of}
use Rattle.sampler_state.proofs.assembly.data_width.Goals as goal

at_most_eight : (w : Bits) (n : ℕ) → n ≡ min w.0 8 → ◌≡◌ {A = Bits} (record { 0 = n }) (pick (ltb w.0 8) w (record { 0 = 8 }))
at_most_eight w n e = go (dec_lt w.0 8)
  where
    bits : ℕ → Bits
    bits k = record { 0 = k }

    go : Dec (w.0 < 8) → ◌≡◌ {A = Bits} (record { 0 = n }) (pick (ltb w.0 8) w (record { 0 = 8 }))
    go (yes h) = let k : n ≡ w.0 = omega (arith, e) in rw (pick_yes _ _ _ (lt-ltb w.0 8 h)) (ap bits k)
    go (no h) = let k : n ≡ 8 = omega (arith, e) in rw (pick_no _ _ _ (le-ltb w.0 8 (omega arith))) (ap bits k)

pub returns : goal.returns
unfolding data_width_of
returns c = at_most_eight c.args.format.width _ c.min.ensures
