-- The numbers that document 01 writes out shut wrong chips out: each takes an event as another, or answers as `step_of` does but for one fault, and is
-- refuted by computing one number. Made in the definitions and in the code together they would still be refused. Assumes nothing.
use Prim.Native.Nat.{ℕ, ◌+◌, ◌-◌, ◌*◌, ◌/◌, ◌%◌}
use mathlib.Core.Path.{◌≡◌, ap}
use mathlib.Core.Bool.{Bool, true, false, ◌&&◌}
use mathlib.Core.List.{List, []}
use native.Mathlib.Omega.{arith}
use lib.Dec.{eqb}
use lib.ListN.{get_or}
use Rattle.format.specs.Digits.{bit}
use Rattle.format.specs.Pick.{pick}
use Rattle.events.specs.declared.events.Event.{Event}
use Rattle.events.specs.declared.events.Event.TheVariants.{ChipReset, Read, Write, Acknowledge, Pins, Tick}
use Rattle.chip_answers.specs.declared.answers.Lines.{Lines}
use Rattle.chip_step.specs.Chip.{step_of}
use Rattle.chip_laws.specs.Table.{Step}
use Rattle.chip_laws.proofs.Computing.{computing}
use Rattle.chip_laws.proofs.Examples.{broken, Dark, examples}
use Rattle.chip_laws.proofs.Registers.{Reads, Writes}
use Rattle.chip_laws.proofs.Commands.{Commands}
use Rattle.chip_laws.proofs.Formats.{Sent, Checked}
use Rattle.chip_laws.proofs.Wrong.{refusing, with_lines}

-- ---- answer 1 ----

-- "(for 1, all lines 0)": the OP pins high
abbrev high_pins : Step
high_pins = refusing (λ d e x. pick (eqb x.number 1) (with_lines x (record { irq = false; txda = false; txdb = false; op = 255 })) x)

no_high_pins : Dark high_pins → ⊥
unfolding pick
no_high_pins h =
    let x : high_pins broken ChipReset ≡ record { number = 1; byte = 0; fresh = false; lines = record { irq = false; txda = false; txdb = false; op = 255 }; state = broken } =
    rw examples.unsound_reset
    in
    let z : ◌≡◌ {A = ℕ} 255 0 = ap (λ (l : Lines). l.op) (rw x at (h broken ChipReset (rw x))) in
    omega arith

-- ---- the registers ----

-- two numbers exchanged
abbrev exchanged : ℕ → ℕ → ℕ → ℕ
exchanged i j n = pick (eqb n i) j (pick (eqb n j) i n)

-- reads by other numbers, and writes as others
abbrev altered : (ℕ → ℕ) → (ℕ → ℕ → Event) → Event → Event
altered r w ChipReset = ChipReset
altered r w (Read n) = Read (r n)
altered r w (Write n byte) = w n byte
altered r w Acknowledge = Acknowledge
altered r w (Pins levels) = Pins levels
altered r w Tick = Tick

abbrev same : ℕ → ℕ
same n = n

abbrev renumbered : (ℕ → ℕ) → (ℕ → ℕ) → Step
renumbered r w d e = step_of d (altered r (λ (n byte : ℕ). Write (w n) byte) e)

-- "6, 7 count high, low / preload high, low"
no_reads6_and7 : Reads (renumbered (exchanged 6 7) same) → ⊥
unfolding computing
no_reads6_and7 h = omega (arith, ap (λ (l : List ℕ). get_or l 5 0) h.bytes)

no_writes6_and7 : Writes (renumbered same (exchanged 6 7)) → ⊥
unfolding computing
no_writes6_and7 h = omega (arith, ap (λ (l : List ℕ). get_or l 6 0) h.before)

-- both at once: the preload is the other way round, and so is the count
no_both6_and7 : Reads (renumbered (exchanged 6 7) (exchanged 6 7)) → ⊥
unfolding computing
no_both6_and7 h = omega (arith, ap (λ (l : List ℕ). get_or l 0 0) h.started)

-- "4 IPCR / ACR; 5 ISR / IMR"
no_reads4_and5 : Reads (renumbered (exchanged 4 5) same) → ⊥
unfolding computing
no_reads4_and5 h = omega (arith, ap (λ (l : List ℕ). get_or l 3 0) h.bytes)

no_writes4_and5 : Writes (renumbered same (exchanged 4 5)) → ⊥
unfolding computing
no_writes4_and5 h = omega (arith, ap (λ (l : List ℕ). get_or l 4 0) h.before)

-- "14 start counter / set OP bits; 15 stop counter / reset OP bits"
no_reads14_and15 : Reads (renumbered (exchanged 14 15) same) → ⊥
unfolding computing
no_reads14_and15 h = omega (arith, ap (λ (l : List ℕ). get_or l 0 0) h.started)

no_writes14_and15 : Writes (renumbered same (exchanged 14 15)) → ⊥
unfolding computing
no_writes14_and15 h = omega (arith, ap (λ (l : List ℕ). get_or l 13 0) h.before)

-- "8-11 as 0-3 for channel B": status of B as of A
no_reads1_and9 : Reads (renumbered (exchanged 1 9) same) → ⊥
unfolding computing
no_reads1_and9 h = omega (arith, ap (λ (l : List ℕ). get_or l 1 0) h.bytes)

-- ---- the commands ----

-- a chip that takes A's command k as the next, and that one as k
abbrev next_for : ℕ → ℕ → ℕ
next_for k byte = pick (eqb (byte / 16 % 8) k) (byte + 16) (pick (eqb (byte / 16 % 8) (k + 1)) (byte - 16) byte)

abbrev commands_as : ℕ → Step
commands_as k d e = step_of d (altered same (λ (n byte : ℕ). Write n (pick (eqb n 2) (next_for k byte) byte)) e)

-- "6, 7 start, stop break"
no_commands6_and7 : Commands (commands_as 6) → ⊥
unfolding computing
no_commands6_and7 h = omega (arith, ap (λ (l : List (List ℕ)). get_or (get_or l 6 []) 4 0) h.eight)

-- "4 clear overrun, ..; 5 clear break change"
no_commands4_and5 : Commands (commands_as 4) → ⊥
unfolding computing
no_commands4_and5 h = omega (arith, ap (λ (l : List (List ℕ)). get_or (get_or l 4 []) 1 0) h.eight)

-- "2 reset receiver ..; 3 reset transmitter"
no_commands2_and3 : Commands (commands_as 2) → ⊥
unfolding computing
no_commands2_and3 h = omega (arith, ap (λ (l : List (List ℕ)). get_or (get_or l 2 []) 1 0) h.eight)

-- ---- formats ----

-- a chip that takes A's MR1, or MR2, as another byte
abbrev modes_as : Bool → (ℕ → ℕ) → Step
modes_as second f d e =
    step_of d (altered same (λ (n byte : ℕ). Write n (pick (eqb n 0 && eqb (bit d.front.a.moved) (bit second)) (f byte) byte)) e)

-- "4-3 parity 00 with, 01 forced, 10 none": forced as none, sent and checked
abbrev forced_as_none : Step
forced_as_none = modes_as false (λ (mr1 : ℕ). pick (eqb (mr1 / 8 % 4) 1) (mr1 + 8) mr1)

no_forced_as_none : Sent forced_as_none → ⊥
unfolding computing
no_forced_as_none h = omega (arith, ap (λ (l : List ℕ). get_or l 6 0) h.low.0)

no_forced_unchecked : Checked forced_as_none → ⊥
unfolding computing
no_forced_unchecked h = omega (arith, ap (λ (l : List ℕ). get_or l 3 0) h.low)

-- "2 odd, or forced high": forced as with parity
no_forced_as_with : Sent (modes_as false (λ (mr1 : ℕ). pick (eqb (mr1 / 8 % 4) 1) (mr1 - 8) mr1)) → ⊥
unfolding computing
no_forced_as_with h = omega (arith, ap (λ (l : List ℕ). get_or l 6 0) h.low.0)

-- "With a 1X clock: one bit, two if bit 3 is set.": always one
no_one_stop_bit : Sent (modes_as true (λ (mr2 : ℕ). mr2 / 16 * 16 + mr2 % 8)) → ⊥
unfolding computing
no_one_stop_bit h = omega (arith, ap (λ (l : List ℕ). get_or l 7 0) h.twice.0)
