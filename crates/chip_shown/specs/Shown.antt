-- The status register and ISR. Of a receiver they see what `status_of` says of it and its break change, and nothing
-- else. Assumes nothing.
use Rattle.std.specs.Prelude.{ℕ, ◌/◌, ◌%◌, Bool, eqb}
use Rattle.format.specs.Pick.{pick}
use Rattle.receiver_state.specs.declared.arrivals.Receiver.{Receiver}
use Rattle.receiver_status.specs.declared.status.Status.{Status}
use Rattle.receiver_status.specs.Status.{status_of}
use Rattle.transmitter.specs.declared.status.TransmitterStatus.{TransmitterStatus}
use Rattle.byte_bits.specs.Bytes.{byte_of}
use Rattle.front_side.specs.declared.side.Side.{Side}
use Rattle.front_modes.specs.Modes.{sender_shown}
use Rattle.chip_shown.specs.declared.shown.Shown.{Shown}

-- "SR bits 7-0: break, framing, parity, overrun, TxEMT, TxRDY, FFULL, RxRDY."
abbrev pub status_register : Status → TransmitterStatus → ℕ
status_register x t =
    byte_of x.marks.broken x.marks.framing x.marks.parity x.overrun t.empty t.ready x.full
    x.ready

-- "MR1: bit 6 FFULL instead of RxRDY for ISR"
unfoldable pub received_of : ℕ → Status → Bool
received_of mr1 x = pick (eqb (mr1 / 64 % 2) 1) x.full x.ready

-- "MR1: .. 5 block errors"
abbrev pub block_errors : Side → Bool
block_errors s = eqb (s.mr1 / 32 % 2) 1

-- a channel, from its side, its receiver's status and break change
unfoldable pub shown_of : Side → Status → Bool → Shown
shown_of s x change =
    record {
      status = status_register x (sender_shown s);
      change = change;
      received = received_of s.mr1 x;
      ready = (sender_shown s).ready;
    }

abbrev pub channel_shown : Side → Receiver → Shown
channel_shown s r = shown_of s (status_of r (block_errors s)) r.change

-- "ISR bits 7-0: input change, break change B, Rx B, TxRDYB, counter, break change A, Rx A, TxRDYA."
abbrev pub interrupt_status : Bool → Bool → Shown → Shown → ℕ
interrupt_status input counter a b =
    byte_of input b.change b.received b.ready counter a.change a.received a.ready
