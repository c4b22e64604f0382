-- The invariant of the loop of `write_levels`: the first i levels stand over the front of the space, and the rest is as it was. Assumes nothing.
use Rattle.std.proofs.Common.{◌≡◌}
use Rattle.request.specs.Request.{open_levels, over_front}
use Rattle.request.proofs.request.write_levels.Given as goal

abbrev pub invariant-loop-i : goal.invariant-loop-i
invariant-loop-i l = l.space ≡ over_front (open_levels l.mr1 l.byte l.fn.pulses.0) l.i l.initial.space
