-- `hear_until` meets its contract: the pulses that are left come at the level of the wire. Assumes nothing.
use Prim.Native.Nat.{◌-◌}
use mathlib.Core.Path.{◌≡◌, ◌∙◌}
use native.Mathlib.Omega.{arith}
use Rattle.text.proofs.Laws.Pages.{writes_as}
use Rattle.vcd_capture.specs.Ear.{pulses_before, ear_until, heard_until}
use Rattle.vcd_capture.proofs.Laws.Hearing.{pulses_within}
use Rattle.vcd_capture.proofs.ear.hear_until.Goals as goal

pub hear_pulses-sampler-requires : goal.hear_pulses-sampler-requires
hear_pulses-sampler-requires c =
    let a = c.args in
    let few = pulses_within a.wire.period a.time c.requires.0 in
    let n = c.pulses_before.ensures in
    let m = c.saturating_sub-times.ensures in
    omega (arith, c.requires.1, c.requires.2)

pub overflow_add-result : goal.overflow_add-result
overflow_add-result c =
    let a = c.args in
    let few = pulses_within a.wire.period a.time c.requires.0 in
    let n = c.pulses_before.ensures in
    let m = c.saturating_sub-times.ensures in
    omega (arith, c.requires.1, c.requires.2)

pub returns : goal.returns
unfolding ear_until heard_until
returns c =
    let a = c.args in
    let n : c.saturating_sub-times.result ≡ pulses_before a.wire.period a.time - a.ear.done = c.saturating_sub-times.ensures ∙ rw c.pulses_before.ensures in
    record {
      ear = rw (c.hear_pulses-sampler.ensures.sampler, n);
      writes = writes_as (rw n) c.hear_pulses-sampler.ensures.writes;
    }
