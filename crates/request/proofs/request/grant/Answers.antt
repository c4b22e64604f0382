-- `grant` meets its contract: each way through the tests is the definition's. Assumes nothing.
use borrow.Author.Tests.{lt-ltb, le-ltb}
use Rattle.format.specs.Pick.{pick}
use Rattle.request.specs.Request.{first_refusal, answer_of, request_of}
use Rattle.request.proofs.request.grant.Goals as goal

pub returns-then-mr1_not_modelled-mr2_not_modelled : goal.returns-then-mr1_not_modelled-mr2_not_modelled
unfolding first_refusal answer_of request_of pick
returns-then-mr1_not_modelled-mr2_not_modelled c =
    rw (← c.mr1_not_modelled.ensures, ← c.mr2_not_modelled.ensures, c.if-mr1_not_modelled-mr2_not_modelled.true)

pub returns-then-space-pulses : goal.returns-then-space-pulses
unfolding first_refusal answer_of request_of pick
returns-then-space-pulses c =
    rw (
      ← c.mr1_not_modelled.ensures,
      ← c.mr2_not_modelled.ensures,
      c.if-mr1_not_modelled-mr2_not_modelled.false,
      ← c.frame_length-pulses.ensures,
      lt-ltb _ _ c.if-space-pulses.true,
    )

pub returns : goal.returns
unfolding first_refusal answer_of request_of pick
returns c =
    rw (
      ← c.mr1_not_modelled.ensures,
      ← c.mr2_not_modelled.ensures,
      c.if-mr1_not_modelled-mr2_not_modelled.false,
      ← c.frame_length-pulses.ensures,
      le-ltb _ _ c.if-space-pulses.false,
    )
