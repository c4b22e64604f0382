-- `hop` meets its contract: what the receiver does chooses the rule, and the pulses are passed or taken by that rule's law. Assumes nothing.
use mathlib.Core.Path.{sym, ◌∙◌}
use native.Mathlib.Omega.{arith}
use Rattle.vcd_capture.proofs.Laws.Hops.{start-hops, bit-hops, break-hops, hunt-hops, hops_as, one_as}
use Rattle.vcd_capture.proofs.Laws.Hops.{sample-starts, sample-bit, sample-follows, sample-waits, sample-hunts}
use Rattle.vcd_capture.proofs.hops.hop.Goals as goal

pub returns-then-left-eq0 : goal.returns-then-left-eq0
returns-then-left-eq0 c =
    one_as c.one_pulse.ensures
    (c.look_again.ensures ∙ sym (sample-starts c.args.setting c.args.sampler c.args.level c.if-sampler-eq-STARTING.true))
    c.requires

pub returns-then-sampler-eq-STARTING : goal.returns-then-sampler-eq-STARTING
returns-then-sampler-eq-STARTING c =
    let a = c.args in
    hops_as (c.stay.ensures ∙ rw (c.starting_at.ensures, c.left_after.ensures, c.pass.ensures))
    (start-hops a.level a.setting a.sampler a.most c.if-sampler-eq-STARTING.true (omega (arith, c.if-left-eq0.false)) c.requires)

pub returns-then-left-eq0-2 : goal.returns-then-left-eq0-2
returns-then-left-eq0-2 c =
    one_as c.one_pulse-then-left-eq0-2.ensures
    (c.take_sample.ensures ∙ sym (sample-bit c.args.level c.args.setting c.args.sampler c.if-sampler-eq-ASSEMBLING.true c.if-left-eq0-2.true))
    c.requires

pub returns-then-sampler-eq-ASSEMBLING : goal.returns-then-sampler-eq-ASSEMBLING
returns-then-sampler-eq-ASSEMBLING c =
    let a = c.args in
    hops_as (c.stay-then-sampler-eq-ASSEMBLING.ensures ∙ rw (c.assembling_at-next.ensures, c.left_after-then-sampler-eq-ASSEMBLING.ensures, c.pass-then-sampler-eq-ASSEMBLING.ensures))
    (bit-hops a.level a.setting a.sampler a.most c.if-sampler-eq-ASSEMBLING.true (omega (arith, c.if-left-eq0-2.false)) c.requires)

pub returns-then-sampler-eq-AFTER_LOW_STOP : goal.returns-then-sampler-eq-AFTER_LOW_STOP
returns-then-sampler-eq-AFTER_LOW_STOP c =
    one_as c.one_pulse-then-sampler-eq-AFTER_LOW_STOP.ensures
    (c.follow_low_stop.ensures ∙ sym (sample-follows c.args.setting c.args.sampler c.args.level c.if-sampler-eq-AFTER_LOW_STOP.true))
    c.requires

pub returns-then-level : goal.returns-then-level
returns-then-level c =
    one_as c.one_pulse-then-level.ensures
    (c.wait_for_end.ensures ∙ sym (sample-waits c.args.setting c.args.sampler c.args.level c.if-sampler-eq-IN_BREAK.true))
    c.requires

pub returns-then-sampler-eq-IN_BREAK : goal.returns-then-sampler-eq-IN_BREAK
returns-then-sampler-eq-IN_BREAK c =
    let a = c.args in
    hops_as (c.stay-then-sampler-eq-IN_BREAK.ensures ∙ rw c.empty_at.ensures)
    (break-hops a.setting a.sampler a.level a.most c.if-sampler-eq-IN_BREAK.true c.if-level.false c.requires)

pub returns-then-level-sampler : goal.returns-then-level-sampler
returns-then-level-sampler c =
    let a = c.args in
    hops_as (c.stay-then-level-sampler.ensures ∙ rw c.hunting_after.ensures)
    (hunt-hops a.setting a.sampler a.level a.most (c.if-sampler-eq-STARTING.false, c.if-sampler-eq-ASSEMBLING.false, c.if-sampler-eq-AFTER_LOW_STOP.false, c.if-sampler-eq-IN_BREAK.false) c.if-level-sampler.true c.requires)

pub returns : goal.returns
returns c =
    let a = c.args in
    one_as c.one_pulse-2.ensures
    (c.hunt.ensures ∙ sym (sample-hunts a.setting a.sampler a.level (c.if-sampler-eq-STARTING.false, c.if-sampler-eq-ASSEMBLING.false, c.if-sampler-eq-AFTER_LOW_STOP.false, c.if-sampler-eq-IN_BREAK.false)))
    c.requires
