-- One name for what a proof by computing unfolds: what a receiver makes of its feeds. It says nothing by itself.
use mathlib.Core.Bool.{Bool, true}
use Rattle.sampler.proofs.Computing as Samplers
use Rattle.queue.specs.Queue.{held_of, put_of, without_waiting_of, took_of}
use Rattle.receiver_state.specs.Arrivals.{oldest_marks, started_of, entered_of, arrived_of, pulsed_of}
use Rattle.receiver_commands.specs.Commands.{effect_of, enabling_of}
use Rattle.receiver_status.specs.Status.{shown_marks}
use Rattle.receiver.specs.Receiver.{oldest_read, read_of, fed_of}
use Rattle.receiver.specs.Delivery.{written, ledger_from, after, given, reads}

unfoldable pub computing : Bool
unfolding Samplers.computing held_of put_of without_waiting_of took_of oldest_marks started_of entered_of arrived_of pulsed_of
    effect_of enabling_of shown_marks oldest_read read_of fed_of written ledger_from after given reads
computing = true
