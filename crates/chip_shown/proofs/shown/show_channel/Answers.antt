-- `show_channel` meets its contract: it is what its callees answer. Assumes nothing.
use Rattle.chip_shown.specs.Shown.{shown_of}
use Rattle.chip_shown.proofs.shown.show_channel.Goals as goal

pub returns : goal.returns
unfolding shown_of
returns c = simp (c.received_of.ensures, c.status_register.ensures, c.show_sender-sender.ensures, c.show_status-status.ensures)
