-- After each turn the line holds one level more, and the last answer is a bit further. Assumes nothing.
use Rattle.lister_line.proofs.Laws.Turns.{Sofar}
use Rattle.lister_line.proofs.line.list_byte.Given as goal

abbrev pub invariant-loop-level : goal.invariant-loop-level
invariant-loop-level l = Sofar l.initial.last l.last l.level-items l.level-index
