-- Demand 2: "Registers, interrupt line, vector, counter, sent levels and received characters follow the Motorola
-- manuals as document 01 fixes them.": the registers, the interrupt line, the vector and the output pins, over any list
-- of events after a chip reset. A law is a sentence of 01, and says it of what the program wrote and what it is
-- answered. Assumes nothing.
use Rattle.std.specs.Prelude.{ℕ, ◌+◌, ◌*◌, ◌-◌, ◌<◌, ◌/◌, ◌%◌, ◌≡◌, Bool, true, false, not, List, ◌∷◌, ◌++◌, eqb}
use Rattle.std.specs.Int.Bits.{bit_and, bit_or, bit_xor}
use Rattle.format.specs.Pick.{pick}
use Rattle.byte_bits.specs.Bytes.{has_bit}
use Rattle.outputs.specs.Outputs.{opcr_not_modelled}
use Rattle.timer.specs.Modes.{timer_in}
use Rattle.events.specs.declared.events.Event.{Event}
use Rattle.events.specs.declared.events.Event.TheVariants.{ChipReset, Read, Write, Acknowledge, Pins, Tick}
use Rattle.chip_laws.specs.Quiet.{only_looks}
use Rattle.demands.specs.Chip.{Chip, Channel, of_channel, register_of, and_then, over, shows, status_bit, lines_after}
use Rattle.demands.specs.Told.{last_written, levels_after, programmed, in_echo}

-- ---- what the events tell of the ports ----

-- the pins' levels, and which of IP3-IP0 have changed since a read of IPCR or a chip reset
pub record Changes : Type 0 where
  pub levels : ℕ
  pub flags : ℕ

-- "IPCR: change flags IP3-IP0, then levels; a read clears the flags."
abbrev pub changes_then : Changes → Event → Changes
changes_then x ChipReset = record { levels = x.levels; flags = 0 }
changes_then x (Read n) = pick (eqb n 4) (record { levels = x.levels; flags = 0 }) x
changes_then x (Write n byte) = x
changes_then x Acknowledge = x
changes_then x (Pins levels) = record { levels = levels; flags = bit_or x.flags (bit_xor x.levels levels % 16) }
changes_then x Tick = x

abbrev pub changes_after : ℕ → List Event → Changes
changes_after levels es = over changes_then (record { levels = levels; flags = 0 }) es

-- "14 .. set OP bits; 15 .. reset OP bits"
abbrev pub outputs_then : ℕ → Event → ℕ
outputs_then x ChipReset = 0
outputs_then x (Read n) = x
outputs_then x (Write n byte) = pick (eqb n 14) (bit_or x byte) (pick (eqb n 15) (bit_and x (255 - byte)) x)
outputs_then x Acknowledge = x
outputs_then x (Pins levels) = x
outputs_then x Tick = x

-- "13 .. OPCR": a setting not modelled is refused
abbrev pub opcr_then : ℕ → Event → ℕ
opcr_then x ChipReset = 0
opcr_then x (Read n) = x
opcr_then x (Write n byte) = pick (eqb n 13) (pick (opcr_not_modelled byte) x byte) x
opcr_then x Acknowledge = x
opcr_then x (Pins levels) = x
opcr_then x Tick = x

-- the registers that are as they were last written
abbrev pub ivr_after : List Event → ℕ
ivr_after es = over (last_written 12 15) 15 es

abbrev pub imr_after : List Event → ℕ
imr_after es = over (last_written 5 0) 0 es

abbrev pub acr_after : List Event → ℕ
acr_after es = over (last_written 4 0) 0 es

-- "ACR 6-4"
abbrev pub mode_after : List Event → ℕ
mode_after es = acr_after es / 16 % 8

abbrev pub share_bit : ℕ → ℕ → Bool
share_bit a b = not (eqb (bit_and a b) 0)

-- the events that read nothing
abbrev pub reads_nothing : Event → Bool
reads_nothing ChipReset = true
reads_nothing (Read n) = false
reads_nothing (Write n byte) = true
reads_nothing Acknowledge = false
reads_nothing (Pins levels) = true
reads_nothing Tick = true

-- ---- the statements ----

pub record Registers (c : Chip) : Type 0 where
  -- "12 IVR (both)"; "IVR 15": a read of 12 answers the last byte written there, else 15
  pub vector : (levels : ℕ) (es : List Event) → shows c levels es 12 ≡ ivr_after es
  -- "acknowledge then reads IVR and changes nothing"
  pub acknowledged : (levels : ℕ) (es : List Event) → (c levels es Acknowledge).number ≡ 0
      → (c levels es Acknowledge).byte ≡ ivr_after es
  -- "0 MR1 then MR2 (both)"; "Any access at MR1 moves the pointer to MR2, where it stays."; "1 pointer to MR1"
  pub modes : (levels : ℕ) (ch : Channel) (es : List Event)
      → shows c levels es (register_of ch 0)
      ≡ pick (programmed ch es).moved (programmed ch es).mr2 (programmed ch es).mr1
  -- "Input port bits 7, 6 read 1."
  pub input_port : (levels : ℕ) (es : List Event) → shows c levels es 13 ≡ levels_after levels es % 64 + 192
  -- "IPCR: change flags IP3-IP0, then levels; a read clears the flags."
  pub changes : (levels : ℕ) (es : List Event)
      → shows c levels es 4 ≡ (changes_after levels es).flags * 16 + (changes_after levels es).levels % 16
  -- "Start and stop read 0."
  pub start : (levels : ℕ) (es : List Event) → shows c levels es 14 ≡ 0
  pub stop : (levels : ℕ) (es : List Event) → shows c levels es 15 ≡ 0
  -- "the data byte (0 where none is read)"
  pub unread : (levels : ℕ) (es : List Event) (e : Event) → reads_nothing e ≡ true → (c levels es e).byte ≡ 0
  -- "A status read that takes a character" is a trap: such a read changes no later answer, and an acknowledge none
  pub looks : (levels n : ℕ) (es fs : List Event) (e : Event) → only_looks n ≡ true
      → c levels (es ++ Read n ∷ fs) e ≡ c levels (es ++ fs) e
  pub acknowledges : (levels : ℕ) (es fs : List Event) (e : Event)
      → c levels (es ++ Acknowledge ∷ fs) e ≡ c levels (es ++ fs) e
  -- "Chip reset: .. Pin levels stay.": all else is as after the first one
  pub resets : (levels : ℕ) (es fs : List Event) (e : Event)
      → c levels (es ++ ChipReset ∷ fs) e ≡ c (levels_after levels es) fs e

pub record Interrupts (c : Chip) : Type 0 where
  -- the lines of an answer are as they stand after its event
  pub lines : (levels : ℕ) (es : List Event) (e : Event) → (c levels es e).lines ≡ lines_after c levels (and_then es e)
  -- "IRQ is asserted when ISR and IMR share a set bit"
  pub asserted : (levels : ℕ) (es : List Event)
      → (lines_after c levels es).irq ≡ share_bit (shows c levels es 5) (imr_after es)
  -- 6: "acknowledge while IRQ is not asserted"
  pub acknowledge : (levels : ℕ) (es : List Event)
      → (c levels es Acknowledge).number ≡ pick (lines_after c levels es).irq 0 6
  -- "ISR bit 7: some flag is set whose ACR bit (3-0) is set."
  pub input : (levels : ℕ) (es : List Event)
      → has_bit (shows c levels es 5) 7 ≡ share_bit (changes_after levels es).flags (acr_after es % 16)
  -- "ISR bits 7-0: .. TxRDYB, .. TxRDYA."
  pub ready : (levels : ℕ) (ch : Channel) (es : List Event)
      → has_bit (shows c levels es 5) (of_channel ch 0 4) ≡ status_bit c levels ch es 2
  -- "Rx B, .. Rx A"; "MR1: bit 6 FFULL instead of RxRDY for ISR"
  pub received : (levels : ℕ) (ch : Channel) (es : List Event)
      → has_bit (shows c levels es 5) (of_channel ch 1 5)
      ≡ pick (has_bit (programmed ch es).mr1 6) (status_bit c levels ch es 1) (status_bit c levels ch es 0)
  -- "TxRDY: enabled and .. TxEMT: enabled, ..": neither of a transmitter that the last command to name it, or a reset,
  -- left disabled
  pub disabled : (levels : ℕ) (ch : Channel) (es : List Event) → (programmed ch es).transmits ≡ false
      → (status_bit c levels ch es 2 ≡ false) × (status_bit c levels ch es 3 ≡ false)
  -- "holding place empty": not after a write; both after a reset that enables again
  pub written : (levels : ℕ) (ch : Channel) (es : List Event) (byte : ℕ)
      → status_bit c levels ch (and_then es (Write (register_of ch 3) byte)) 2 ≡ false
  pub enabled : (levels : ℕ) (ch : Channel) (es : List Event) → in_echo (programmed ch es) ≡ false
      → (status_bit c levels ch (and_then es (Write (register_of ch 2) 52)) 2 ≡ true)
      × (status_bit c levels ch (and_then es (Write (register_of ch 2) 52)) 3 ≡ true)
  -- order 2, of automatic echo and "the same echo" of remote loopback: "TxRDY and TxEMT read 0"
  pub echoing : (levels : ℕ) (ch : Channel) (es : List Event) → in_echo (programmed ch es) ≡ true
      → (status_bit c levels ch es 2 ≡ false) × (status_bit c levels ch es 3 ≡ false)

-- a pin's level, and which ISR bit OPCR may put on it
abbrev pub source_of : ℕ → ℕ
source_of pin = pick (eqb pin 7) 4 (pick (eqb pin 6) 0 (pick (eqb pin 5) 5 1))

pub record Outputs (c : Chip) : Type 0 where
  -- "OP pins are the complement of the output bits."
  pub plain : (levels pin : ℕ) (es : List Event) → pin < 3
      → has_bit (lines_after c levels es).op pin ≡ not (has_bit (over outputs_then 0 es) pin)
  -- "OPCR bits 7, 6, 5, 4 turn OP7, 6, 5, 4 into the complement of ISR bits 4, 0, 5, 1."
  pub chosen : (levels pin : ℕ) (es : List Event) → 3 < pin → pin < 8
      → has_bit (lines_after c levels es).op pin
      ≡ not (pick (has_bit (over opcr_then 0 es) pin) (has_bit (shows c levels es 5) (source_of pin))
      (has_bit (over outputs_then 0 es) pin))
  -- "OPCR 3-2 = 01 puts the timer output on OP3, or in counter mode the complement of ISR bit 3." (The timer output:
  -- Counter.)
  pub third : (levels : ℕ) (es : List Event) → eqb (over opcr_then 0 es / 4 % 4) 1 ≡ false
      → has_bit (lines_after c levels es).op 3 ≡ not (has_bit (over outputs_then 0 es) 3)
  pub counter : (levels : ℕ) (es : List Event) → eqb (over opcr_then 0 es / 4 % 4) 1 ≡ true
      → timer_in (mode_after es) ≡ false
      → has_bit (lines_after c levels es).op 3 ≡ not (has_bit (shows c levels es 5) 3)
