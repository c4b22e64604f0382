-- TxRDY and TxEMT. Assumes nothing.
use Rattle.std.specs.Prelude.{Bool, not, ◌&&◌, eqb}
use Rattle.transmitter_state.specs.declared.state.Transmitter.{Transmitter}
use Rattle.transmitter_state.specs.State.{sending}
use Rattle.transmitter.specs.declared.status.TransmitterStatus.{TransmitterStatus}

-- Whether the shifter holds no character. The one place that says when it empties: not with its frame's last pulse, but
-- on the pulse after it, when that pulse's time is over (source 004: the bit is set after transmission of the last stop
-- bit).
abbrev pub shifter_empty : Transmitter → Bool
shifter_empty t = not (eqb t.phase sending)

-- "TxRDY: enabled and holding place empty. TxEMT: enabled, holding place and shifter empty."
abbrev pub status_of : Transmitter → TransmitterStatus
status_of t = record { ready = t.enabled && not t.full; empty = (t.enabled && not t.full) && shifter_empty t }
