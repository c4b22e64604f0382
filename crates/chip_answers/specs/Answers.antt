-- The lines and the data byte, from the front and from what the channels show. Of the receivers nothing else is
-- seen but the byte that a read of the buffer takes. Assumes nothing.
use Rattle.std.specs.Prelude.{ℕ, Bool, false, not, eqb}
use Rattle.std.specs.Int.Bits.{bit_and}
use Rattle.format.specs.Pick.{pick}
use Rattle.byte_bits.specs.Bytes.{has_bit}
use Rattle.timer_state.specs.Counting.{mode_of, is_timer}
use Rattle.events.specs.declared.events.Event.{Event}
use Rattle.events.specs.declared.events.Event.TheVariants.{ChipReset, Read, Write, Acknowledge, Pins, Tick}
use Rattle.front.specs.declared.front.Front.{Front}
use Rattle.front_modes.specs.Modes.{txd_of}
use Rattle.inputs.specs.Inputs.{has_chosen_change}
use Rattle.outputs.specs.Outputs.{op_levels}
use Rattle.front_reads.specs.Reads.{front_data}
use Rattle.chip_shown.specs.declared.shown.Shown.{Shown}
use Rattle.chip_shown.specs.Shown.{interrupt_status}
use Rattle.chip_answers.specs.declared.answers.Lines.{Lines}

abbrev pub isr_of : Front → Shown → Shown → ℕ
isr_of f a b = interrupt_status (has_chosen_change f.inputs f.acr) f.timer.ready a b

-- "IRQ is asserted when ISR and IMR share a set bit"
abbrev pub share_a_bit : ℕ → ℕ → Bool
share_a_bit isr imr = not (eqb (bit_and isr imr) 0)

unfoldable pub asserted_of : Front → Shown → Shown → Bool
asserted_of f a b = share_a_bit (isr_of f a b) f.imr

-- "OPCR 3-2 = 01 puts the timer output on OP3, or in counter mode the complement of ISR bit 3."
unfoldable pub timer_level : Front → ℕ → Bool
timer_level f isr = pick (is_timer (mode_of f.acr)) f.timer.output (not (has_bit isr 3))

-- "IRQ (1 when asserted), TxDA, TxDB, the OP0-OP7 levels"
unfoldable pub lines_of : Front → Shown → Shown → Lines
lines_of f a b =
    record {
      irq = asserted_of f a b;
      txda = txd_of f.a;
      txdb = txd_of f.b;
      op = op_levels f.outputs (isr_of f a b) (timer_level f (isr_of f a b));
    }

-- "for 1, all lines 0"
abbrev pub no_lines : Lines
no_lines = record { irq = false; txda = false; txdb = false; op = 0 }

-- What a read answers; `first` and `second` are what the receivers of A and B gave to a read of their buffers.
unfoldable pub register_data : Front → Shown → Shown → ℕ → ℕ → ℕ → ℕ
register_data f a b first second n =
    pick (eqb n 1) a.status
    (pick (eqb n 3) first
    (pick (eqb n 5) (isr_of f a b)
    (pick (eqb n 9) b.status
    (pick (eqb n 11) second
    (front_data f n)))))

-- "the data byte (0 where none is read)"; "acknowledge then reads IVR and changes nothing"
unfoldable pub event_data : Front → Shown → Shown → ℕ → ℕ → Event → ℕ
event_data f a b first second ChipReset = 0
event_data f a b first second (Read n) = register_data f a b first second n
event_data f a b first second (Write n byte) = 0
event_data f a b first second Acknowledge = f.ivr
event_data f a b first second (Pins levels) = 0
event_data f a b first second Tick = 0

-- Order 1: "The receive buffer read shall also say fresh or stale"; "any other event is stale". `first` and `second` are
-- what the receivers of A and B said of a read of their buffers.
unfoldable pub register_fresh : Bool → Bool → ℕ → Bool
register_fresh first second n = pick (eqb n 3) first (pick (eqb n 11) second false)

unfoldable pub event_fresh : Bool → Bool → Event → Bool
event_fresh first second ChipReset = false
event_fresh first second (Read n) = register_fresh first second n
event_fresh first second (Write n byte) = false
event_fresh first second Acknowledge = false
event_fresh first second (Pins levels) = false
event_fresh first second Tick = false
