-- `tick_times` meets its contract: of a sound device the last answer is that of the state after the ticks, of another each is the first. Assumes nothing.
use mathlib.Core.Path.{sym, ◌∙◌}
use native.Mathlib.Omega.{arith}
use Rattle.chip_ticks.proofs.Laws.{ticked_none, ticked_sound, ticked_unsound}
use Rattle.chip_ticks.proofs.ticks.tick_times.Goals as goal

pub returns-then-times-eq0 : goal.returns-then-times-eq0
returns-then-times-eq0 c = sym (ticked_none _ _ c.if-times-eq0.true)

pub spend-spent-requires : goal.spend-spent-requires
spend-spent-requires c = sym c.is_sound.ensures ∙ c.if-is_sound.true

pub returns-then-is_sound : goal.returns-then-is_sound
returns-then-is_sound c =
    let some = c.if-times-eq0.false in
    let sound = sym c.is_sound.ensures ∙ c.if-is_sound.true in
    simp (c.at_rest.ensures, c.spend-spent.ensures) (ticked_sound _ _ (omega (arith, some)) sound)

pub returns : goal.returns
returns c =
    let some = c.if-times-eq0.false in
    let unsound = sym c.is_sound.ensures ∙ c.if-is_sound.false in
    simp c.swift_step.ensures (ticked_unsound _ _ (omega (arith, some)) unsound)
