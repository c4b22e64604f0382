-- `swift_step` meets its contract: a tick of a sound device by its law, of another by the first row, all else by the chip's step. Assumes
-- nothing.
use mathlib.Core.Path.{sym, ◌∙◌}
use Rattle.chip_fast.proofs.Laws.Ticked.{only_tick, unsound_refused, sound_tick_lem}
use Rattle.chip_fast.proofs.fast.swift_step.Goals as goal

pub returns-then-is_sound : goal.returns-then-is_sound
returns-then-is_sound c =
    let tick = only_tick _ (sym c.is_tick.ensures ∙ c.if-is_tick.true) in
    simp (c.tick_sound.ensures, tick) (sound_tick_lem _ (sym c.is_sound.ensures ∙ c.if-is_sound.true))

pub returns-then-is_tick : goal.returns-then-is_tick
returns-then-is_tick c =
    simp c.refuse_unsound.ensures (unsound_refused _ _ (sym c.is_sound.ensures ∙ c.if-is_sound.false))

pub returns : goal.returns
returns c = c.answer_other.ensures
