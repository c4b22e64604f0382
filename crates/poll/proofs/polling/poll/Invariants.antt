-- `poll` meets its contract. The invariant of its loop: after i of the events, what is left of them leads to the end that is asked. Assumes nothing.
use lib.ListN.{length}
use Rattle.poll.specs.Step.{turn_of}
use Rattle.poll.specs.Poll.{after_poll}
use Rattle.poll.proofs.Runs.{Sofar}
use Rattle.poll.proofs.polling.poll.Given as goal

abbrev pub invariant-loop-i : goal.invariant-loop-i
invariant-loop-i l =
    Sofar turn_of (after_poll l.fn.device l.fn.events l.fn.answers) l.fn.events (length l.fn.events) l.i l.state l.answers
