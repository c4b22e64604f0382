-- `clock_side` meets its contract: it is what its callees answer. Assumes nothing.
use Rattle.front_side_clocks.specs.Clocking.{side_clocked}
use Rattle.front_side_clocks.proofs.clocking.clock_side.Goals as goal

pub returns : goal.returns
unfolding side_clocked
returns c = simp (c.line_of-feed.ensures, c.take_echo-echo.ensures, c.pulse_transmitter-transmitter.ensures, c.clock_channel-clocked.ensures)
