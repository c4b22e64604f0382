-- `spell` meets its contract. The invariant of its loop: the bytes that are left lead to the number that is asked.
-- Assumes nothing.
use Prim.Native.Nat.{◌≤◌, ◌<◌}
use mathlib.Core.Path.{sym, ◌∙◌}
use native.Mathlib.Omega.{arith}
use lib.ListN.{length}
use borrow.Author.Tests.{eqb-true, eqb-false}
use Rattle.capture.proofs.Laws.{spelled_none, spelled_some, spelled_next, spelled_end}
use Rattle.capture.proofs.arguments.spell.Goals as goal

pub returns-then-is_empty : goal.returns-then-is_empty
returns-then-is_empty c = sym (spelled_none _ (eqb-true _ 0 (sym c.if-is_empty.ensures)))

pub loop-byte-preserved : goal.loop-byte-preserved
loop-byte-preserved c =
    let lt : c.loop-byte.byte-index < length c.args.word.now = omega (arith, c.loop-byte-test.true) in
    rw c.number_after-number.ensures (sym (spelled_next c.args.word.now c.loop-byte.number c.loop-byte.byte-index lt) ∙ c.loop-byte.invariant)

pub returns : goal.returns
returns c =
    let end : length c.args.word.now ≤ c.loop-byte.byte-index = omega (arith, c.loop-byte-test.false) in
    sym (spelled_end c.args.word.now c.loop-byte.number c.loop-byte.byte-index end) ∙ c.loop-byte.invariant
    ∙ sym (spelled_some c.args.word.now (eqb-false _ 0 (sym c.if-is_empty.ensures)))
