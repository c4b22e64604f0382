-- Wrong answers, each shut out by a definition: a routine that gave it would not meet its contract. Assumes nothing.
use Prim.Native.Nat.{ℕ}
use mathlib.Core.Path.{◌≡◌}
use mathlib.Core.Bool.{Bool, false, true, not, true≢false}
use native.Mathlib.Omega.{arith}
use lib.Bits.{bit_and}
use lib.Dec.{eqb}
use Rattle.format.specs.Pick.{pick}
use Rattle.byte_bits.specs.Bytes.{weight_of, byte_of}
use Rattle.events.specs.declared.events.Event.TheVariants.{Tick}
use Rattle.front.specs.declared.front.Front.{Front}
use Rattle.front.specs.Front.{front_at}
use Rattle.chip_shown.specs.declared.shown.Shown.{Shown}
use Rattle.chip_answers.specs.Answers.{isr_of, asserted_of, event_data}

-- a channel that shows nothing but its TxRDY
abbrev shows : Bool → Shown
shows ready = record { status = 0; change = false; received = false; ready = ready }

-- "IRQ is asserted when ISR and IMR share a set bit": this one asks no mask, and TxRDYA asserts it with IMR 0
no_irq_unmasked : ((f : Front) (a b : Shown) → not (eqb (bit_and (isr_of f a b) 255) 0) ≡ asserted_of f a b) → ⊥
unfolding asserted_of byte_of weight_of front_at pick
no_irq_unmasked h = true≢false (h (front_at 255) (shows true) (shows false))

-- "the data byte (0 where none is read)"
no_tick_reads_ivr : ((f : Front) (a b : Shown) (first second : ℕ) → f.ivr ≡ event_data f a b first second Tick) → ⊥
unfolding event_data front_at
no_tick_reads_ivr h = omega (arith, h (front_at 255) (shows false) (shows false) 0 0)
