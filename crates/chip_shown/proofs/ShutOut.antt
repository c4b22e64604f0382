-- Wrong answers, each shut out by a definition: a routine that gave it would not meet its contract. Assumes nothing.
use mathlib.Core.Path.{◌≡◌}
use mathlib.Core.Bool.{Bool, true, false, true≢false}
use native.Mathlib.Omega.{arith}
use Rattle.format.specs.Pick.{pick}
use Rattle.character.specs.Character.{no_marks}
use Rattle.receiver_status.specs.declared.status.Status.{Status}
use Rattle.transmitter_state.specs.State as Transmitters
use Rattle.transmitter.specs.declared.status.TransmitterStatus.{TransmitterStatus}
use Rattle.transmitter.specs.Status.{status_of}
use Rattle.front_side.specs.declared.side.Side.{Side}
use Rattle.front_side.specs.Side.{fresh_side, with_modes, with_transmitter}
use Rattle.front_modes.specs.Modes.{sender_shown}
use Rattle.byte_bits.specs.Bytes.{weight_of, byte_of}
use Rattle.chip_shown.specs.declared.shown.Shown.{Shown}
use Rattle.chip_shown.specs.Shown.{status_register, received_of, shown_of, interrupt_status}

-- one character held
abbrev one : Status
one = record { marks = no_marks; overrun = false; full = false; ready = true }

abbrev none : Shown
none = record { status = 0; change = false; received = false; ready = false }

-- "SR bits 7-0: break, framing, parity, overrun, TxEMT, TxRDY, FFULL, RxRDY."
no_txrdy_for_txemt :
    ((x : Status) (t : TransmitterStatus)
    → byte_of x.marks.broken x.marks.framing x.marks.parity x.overrun
    t.ready t.ready x.full x.ready
    ≡ status_register x t)
    → ⊥
unfolding byte_of weight_of pick
no_txrdy_for_txemt h = omega (arith, h one (record { ready = true; empty = false }))

-- "MR1: bit 6 FFULL instead of RxRDY for ISR"
no_ffull_never_for_isr : ((x : Status) → x.ready ≡ received_of 64 x) → ⊥
unfolding received_of pick
no_ffull_never_for_isr h = true≢false (h one)

-- "ISR bits 7-0: input change, break change B, Rx B, TxRDYB, counter, break change A, Rx A, TxRDYA."
no_input_for_counter :
    ((input counter : Bool) (a b : Shown)
    → byte_of input b.change b.received b.ready input a.change a.received a.ready
    ≡ interrupt_status input counter a b)
    → ⊥
unfolding byte_of weight_of pick
no_input_for_counter h = omega (arith, h false true none none)

-- order 2: "TxRDY and TxEMT read 0", in ISR as in SR
no_isr_ready_in_echo : ((s : Side) (x : Status) (change : Bool) → (status_of s.transmitter).ready ≡ (shown_of s x change).ready) → ⊥
unfolding shown_of sender_shown fresh_side pick
no_isr_ready_in_echo h =
    true≢false
    (h (with_transmitter (with_modes fresh_side 19 71 true) (Transmitters.with_enabled Transmitters.fresh_transmitter true)) one false)
