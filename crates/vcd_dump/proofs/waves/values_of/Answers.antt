-- `values_of` meets its contract: the word is the sum of its bits. Assumes nothing.
use mathlib.Core.Path.{◌∙◌}
use mathlib.Core.Bool.{not}
use borrow.Author.Rules.{rules}
use Rattle.text.proofs.Laws.Digits.{bit_byte}
use Rattle.vcd_dump.proofs.Laws.Values.{values_sum}
use Rattle.vcd_dump.proofs.waves.values_of.Goals as goal

pub returns : goal.returns
returns c =
    let l = c.args.lines in
    rw (
      c.from-txda.ensures ∙ bit_byte l.txda,
      c.from-txdb.ensures ∙ bit_byte l.txdb,
      c.from-irq.ensures ∙ bit_byte (not l.irq),
      c.from.ensures,
    )
    (values_sum l (search rules))
