-- `bits_before_stop` meets its contract: MR1 chooses at most 8 data bits, so both sums fit. Assumes nothing.
use borrow.Author.Rules.{rules}
use Rattle.frame.specs.Levels.{bits_before_stop_of}
use Rattle.format.specs.Format.{format_of}
use Rattle.format.proofs.Laws.{steps}
use Rattle.frame.proofs.levels.bits_before_stop.Goals as goal

pub overflow_add-result : goal.overflow_add-result
unfolding format_of
overflow_add-result c = rw c.format_of-format.ensures (search rules)

pub returns-then-has_parity : goal.returns-then-has_parity
unfolding bits_before_stop_of
returns-then-has_parity c = rw (← c.format_of-format.ensures, ← c.has_parity.ensures) (search steps)

pub overflow_add-result-2 : goal.overflow_add-result-2
unfolding format_of
overflow_add-result-2 c = rw c.format_of-format.ensures (search rules)

pub returns : goal.returns
unfolding bits_before_stop_of
returns c = rw (← c.format_of-format.ensures, ← c.has_parity.ensures) (search steps)
