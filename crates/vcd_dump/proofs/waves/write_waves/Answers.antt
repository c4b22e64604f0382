-- `write_waves` meets its contract. The invariant of its loop: what is left of the text leads to the whole. Assumes nothing.
use Prim.Native.Nat.{◌+◌, ◌/◌, ◌^◌, ◌<◌}
use mathlib.Core.Path.{◌≡◌, refl, ◌∙◌, ap}
use mathlib.Core.List.{[]}
use native.Mathlib.Omega.{arith}
use borrow.Author.Rules.{rules}
use lib.ListN.{length, get_or}
use Rattle.chip_step.specs.Chip.{step_of}
use Rattle.chip_fast.proofs.Laws.Ticked.{sound_answer_lem}
use Rattle.text.proofs.Laws.Puts.{puts_then, puts_as}
use Rattle.text.proofs.Laws.Pages.{puts_there}
use Rattle.vcd_text.proofs.Examples.{header_length}
use Rattle.vcd_dump.specs.Wave.{record_at}
use Rattle.vcd_dump.proofs.Laws.Records.{record_of, piece_record}
use Rattle.vcd_dump.proofs.Laws.Rest.{text_is}
use Rattle.vcd_dump.proofs.Laws.Stands.{small, stands_on, stands-refused, stands-end}
use Rattle.vcd_dump.proofs.waves.write_waves.Goals as goal

pub put_changes-requires : goal.put_changes-requires
put_changes-requires c =
    let st = c.loop-kind.invariant in
    let here : c.loop-kind.page.at + 55 < 2 ^ 64 = omega (arith, st.place, c.put_header-page.ensures.puts.ends, header_length, c.requires.1) in
    (here, st.before, small _ _ _ _ st)

pub returns-then-answer-ne0 : goal.returns-then-answer-ne0
returns-then-answer-ne0 c =
    let st = c.loop-kind.invariant in
    let a = c.args in
    let i = c.loop-kind.kind-index in
    let here : record_of (get_or c.as_chunks.result.0.now i []) ≡ record_at a.events.now i =
    piece_record a.events.now (length a.events.now / 3) i c.as_chunks.result.0.now c.as_chunks.ensures.front (omega arith) in
    let written =
    stands-refused _ _ _ _ i (record_of (get_or c.as_chunks.result.0.now i [])) c.sound_step-answer.result (omega arith) st here
    (c.sound_step-answer.ensures ∙ sound_answer_lem c.loop-kind.state _ st.sound ∙ ap (step_of c.loop-kind.state) c.event_of.ensures)
    c.if-answer-ne0.true
    c.put_changes.ensures in
    puts_there (puts_as (text_is _ a.device a.events.now refl) (puts_then c.put_header-page.ensures.puts written.puts)) (search rules)

pub add_event-wave-requires : goal.add_event-wave-requires
add_event-wave-requires c =
    let st = c.loop-kind.invariant in
    let here : c.loop-kind.page.at + 55 < 2 ^ 64 = omega (arith, st.place, c.put_header-page.ensures.puts.ends, header_length, c.requires.1) in
    let soon : c.loop-kind.wave.tick + 1 < 2 ^ 32 = omega (arith, st.tick, c.requires.1, c.loop-kind-test.true) in
    (here, st.before, small _ _ _ _ st, soon)

pub loop-kind-preserved : goal.loop-kind-preserved
loop-kind-preserved c =
    let st = c.loop-kind.invariant in
    let i = c.loop-kind.kind-index in
    let here : record_of (get_or c.as_chunks.result.0.now i []) ≡ record_at c.args.events.now i =
    piece_record c.args.events.now (length c.args.events.now / 3) i c.as_chunks.result.0.now c.as_chunks.ensures.front (omega arith) in
    stands_on _ _ _ _ i (record_of (get_or c.as_chunks.result.0.now i [])) c.sound_step-answer.result (omega arith) st here
    (c.sound_step-answer.ensures ∙ sound_answer_lem c.loop-kind.state _ st.sound ∙ ap (step_of c.loop-kind.state) c.event_of.ensures)
    c.if-answer-ne0.false
    c.add_event-wave.ensures

pub put_changes-requires-2 : goal.put_changes-requires-2
put_changes-requires-2 c =
    let st = c.loop-kind.invariant in
    let here : c.loop-kind.page.at + 55 < 2 ^ 64 = omega (arith, st.place, c.put_header-page.ensures.puts.ends, header_length, c.requires.1) in
    (here, st.before, small _ _ _ _ st)

pub returns : goal.returns
returns c =
    let a = c.args in
    let written = stands-end _ _ _ _ c.loop-kind.kind-index (omega arith) c.loop-kind.invariant c.put_changes-2.ensures in
    puts_there (puts_as (text_is _ a.device a.events.now refl) (puts_then c.put_header-page.ensures.puts written.puts)) (search rules)
