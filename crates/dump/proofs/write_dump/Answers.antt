-- `write_dump` is safe: the part of the text that it lends is within its slice, by `dump`'s own answer. Assumes nothing.
use mathlib.Core.Path.{sym}
use native.Mathlib.Omega.{arith}
use lib.Seq.{length-take-le}
use Rattle.vcd_dump.proofs.Laws.Answers.{answer_within}
use Rattle.dump.proofs.write_dump.Goals as goal

pub slice_bounds-write_all-end : goal.slice_bounds-write_all-end
slice_bounds-write_all-end g c =
    let w = answer_within _ _ _ _ c.dump-answer.ensures.answer in
    omega (arith, w, c.dump-answer.auto.space)

pub slice_bounds-write_all-end-then-answer-eq0 : goal.slice_bounds-write_all-end-then-answer-eq0
slice_bounds-write_all-end-then-answer-eq0 g c =
    let w = answer_within _ _ _ _ c.dump-answer.ensures.answer in
    sym (length-take-le _ _ (omega (arith, w, c.dump-answer.auto.space)))
