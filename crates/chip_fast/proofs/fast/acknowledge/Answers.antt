-- `acknowledge` meets its contract: each way by the law of its row. Assumes nothing.
use mathlib.Core.Path.{sym, ◌∙◌, ap}
use Rattle.chip_answers.specs.declared.answers.Lines.{Lines}
use Rattle.chip_fast.proofs.Laws.Ticked.{unsound_refused, ack_asserted, ack_unasserted}
use Rattle.chip_fast.proofs.fast.acknowledge.Goals as goal

pub returns-then-lines : goal.returns-then-lines
returns-then-lines c =
    let sound = sym c.is_sound.ensures ∙ c.if-is_sound.true in
    let irq = ap (λ (l : Lines). l.irq) (sym c.device_lines-lines.ensures) ∙ c.if-lines.true in
    rw (c.device_lines-lines.ensures, c.refuse_unsound-answer.ensures) (ack_asserted _ sound irq)

pub returns-else-lines : goal.returns-else-lines
returns-else-lines c =
    let sound = sym c.is_sound.ensures ∙ c.if-is_sound.true in
    let irq = ap (λ (l : Lines). l.irq) (sym c.device_lines-lines.ensures) ∙ c.if-lines.false in
    rw (c.device_lines-lines.ensures, c.refuse_unsound-answer.ensures, c.number.ensures) (ack_unasserted _ sound irq)

pub returns-else-is_sound : goal.returns-else-is_sound
returns-else-is_sound c =
    c.refuse_unsound-answer.ensures ∙ unsound_refused _ _ (sym c.is_sound.ensures ∙ c.if-is_sound.false)
