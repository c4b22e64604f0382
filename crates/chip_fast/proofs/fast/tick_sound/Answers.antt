-- `tick_sound` meets its contract: a still tick in place, by the law of its way, any other by what its callees answer. Assumes nothing.
use mathlib.Core.Path.{sym, ◌∙◌}
use borrow.Author.Tests.{ltb-true}
use Rattle.chip_fast.proofs.Laws.Ticked.{still_written, full_tick}
use Rattle.chip_fast.proofs.fast.tick_sound.Goals as goal

pub returns-then-has_room : goal.returns-then-has_room
returns-then-has_room c =
    let room = ltb-true 0 _ (sym c.has_room.ensures ∙ c.if-has_room.true) in
    still_written _ _ _ _ room c.refuse_unsound-answer.ensures c.device_lines-lines.ensures c.pass_counts-counts.ensures

pub returns-else-has_room : goal.returns-else-has_room
returns-else-has_room c =
    simp (c.at_rest-full.ensures, c.tick_fully.ensures)
    (full_tick _ (sym c.has_room.ensures ∙ c.if-has_room.false))
