-- `step` meets its contract: each way out is the table's answer, by the laws of the table. Assumes nothing.
use mathlib.Core.Path.{sym, ap, ◌∙◌}
use Rattle.refusal.proofs.Laws.{never_0}
use Rattle.chip_step.proofs.Laws.Table.{accepts, refuses_seven, refuses_first}
use Rattle.chip_device.specs.Device.{is_sound_of}
use Rattle.chip_step.specs.declared.chip.Taken.{Taken}
use Rattle.chip_step.specs.Chip.{refused_of}
use Rattle.chip_step.proofs.chip.step.Goals as goal

pub returns-in-Some : goal.returns-in-Some
returns-in-Some c =
    let first = c.in-Some.ensures in
    c.refuse.ensures ∙ ap (refused_of c.args.device) first ∙ sym (refuses_first _ _ (λ none. never_0 c.in-Some.refusal (first ∙ none)))

pub returns-then-is_sound : goal.returns-then-is_sound
returns-then-is_sound c =
    simp (c.accept.ensures, c.take_event-taken.ensures)
    (sym (accepts _ _ (sym c.in_default.ensures)
    (ap (λ (x : Taken). is_sound_of x.state) (sym c.take_event-taken.ensures) ∙ sym c.is_sound.ensures ∙ c.if-is_sound.true)))

pub returns : goal.returns
returns c =
    simp c.refuse-2.ensures
    (sym (refuses_seven _ _ (sym c.in_default.ensures)
    (ap (λ (x : Taken). is_sound_of x.state) (sym c.take_event-taken.ensures) ∙ sym c.is_sound.ensures ∙ c.if-is_sound.false)))
