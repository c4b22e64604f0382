-- `sound_step` meets its contract: its test is the definition's, and each way is what its callee answers. Assumes nothing.
use Rattle.format.proofs.Laws.{steps}
use Rattle.chip_fast.specs.Fast.{sound_answer}
use Rattle.chip_fast.proofs.fast.sound_step.Goals as goal

pub returns-then-is_tick : goal.returns-then-is_tick
unfolding sound_answer
returns-then-is_tick c = simp (c.tick_sound.ensures, ← c.is_tick.ensures) (search steps)

pub returns : goal.returns
unfolding sound_answer
returns c = simp (c.answer_other.ensures, ← c.is_tick.ensures) (search steps)
