-- `write_shared` meets its contract: one arm a register, each the definition's. Assumes nothing.
use Rattle.format.proofs.Laws.{steps}
use Rattle.format.specs.Pick.{pick}
use Rattle.front_writes.specs.Writes.{shared_written}
use Rattle.front_writes.proofs.writes.write_shared.Goals as goal

pub returns-in-4 : goal.returns-in-4
unfolding shared_written pick
returns-in-4 c = simp (c.write_acr.ensures, c.in-4.is)

pub returns-in-5 : goal.returns-in-5
unfolding shared_written pick
returns-in-5 c = simp (c.write_imr.ensures, c.in-5.is)

pub returns-in-6 : goal.returns-in-6
unfolding shared_written pick
returns-in-6 c = simp (c.write_preload.ensures, c.preload_high.ensures, c.in-6.is)

pub returns-in-7 : goal.returns-in-7
unfolding shared_written pick
returns-in-7 c = simp (c.write_preload-in-7.ensures, c.preload_low.ensures, c.in-7.is)

pub returns-in-12 : goal.returns-in-12
unfolding shared_written pick
returns-in-12 c = simp (c.write_ivr.ensures, c.in-12.is)

pub returns-in-13 : goal.returns-in-13
unfolding shared_written pick
returns-in-13 c = simp (c.write_outputs.ensures, c.choose_outputs.ensures, c.in-13.is)

pub returns-in-14 : goal.returns-in-14
unfolding shared_written pick
returns-in-14 c = simp (c.write_outputs-in-14.ensures, c.set_bits.ensures, c.in-14.is)

pub returns-in-15 : goal.returns-in-15
unfolding shared_written pick
returns-in-15 c = simp (c.write_outputs-in-15.ensures, c.reset_bits.ensures, c.in-15.is)

pub returns-in_default : goal.returns-in_default
unfolding shared_written
returns-in_default c = search steps
