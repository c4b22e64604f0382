-- `refusal_lines` meets its contract: each way is the definition's, with the callee's answer. Assumes nothing.
use Rattle.format.specs.Pick.{pick}
use Rattle.refusal.proofs.Laws.{other_rows}
use Rattle.chip_step.specs.Chip.{refusal_lines}
use Rattle.chip_step.proofs.chip.refusal_lines.Goals as goal

pub returns-in-StateUnsound : goal.returns-in-StateUnsound
unfolding refusal_lines pick
returns-in-StateUnsound c = simp (c.no_lines.ensures, c.in-StateUnsound.is)

pub returns-in_default : goal.returns-in_default
unfolding refusal_lines pick
returns-in_default c = rw (c.device_lines.ensures, other_rows c.args.refusal c.in_default.not-StateUnsound)
