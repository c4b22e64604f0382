-- `write_waves` meets its contract. The invariant of its loop: what is left of the text leads to the whole. Assumes nothing.
use Rattle.vcd_dump.proofs.Laws.Stands.{Stands}
use Rattle.vcd_dump.proofs.waves.write_waves.Given as goal

abbrev pub invariant-loop-kind : goal.invariant-loop-kind
invariant-loop-kind l = Stands l.events l.initial.page l.initial.wave l.initial.state l.page l.wave l.state l.kind-index
