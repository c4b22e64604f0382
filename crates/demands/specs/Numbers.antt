-- "Given exactly when .. Checked in this order.": which number an event is answered with after a chip reset and any
-- events, by its register and byte, the pointer as the events tell it, and the interrupt line. The state is sound there
-- (Reached), so that 1 and 7 are not given. Assumes nothing.
use Rattle.std.specs.Prelude.{ℕ, ◌≡◌, Bool, false, ◌&&◌, ◌||◌, List, eqb, ltb}
use Rattle.format.specs.Pick.{pick}
use Rattle.format.specs.Format.{mr1_not_modelled, mr2_not_modelled}
use Rattle.outputs.specs.Outputs.{opcr_not_modelled}
use Rattle.events.specs.Command.{command_forbidden}
use Rattle.events.specs.declared.events.Event.{Event}
use Rattle.events.specs.declared.events.Event.TheVariants.{ChipReset, Read, Write, Acknowledge, Pins, Tick}
use Rattle.demands.specs.Chip.{Chip, Channel, lines_after}
use Rattle.demands.specs.Chip.Channel.{A, B}
use Rattle.demands.specs.Told.{programmed}

-- The chip judges by the pointer of its state; the statement by the pointer that the events told so far leave.
-- "Not modelled (5): MR1 bit 7 set or bits 4-3 = 11; MR2 .. bit 5 set"; order 2: "5 no longer covers MR2 bits 7-6.":
-- where the channel's pointer is
abbrev pub mode_refused : Channel → List Event → ℕ → Bool
mode_refused ch es byte = pick (programmed ch es).moved (mr2_not_modelled byte) (mr1_not_modelled byte)

-- "OPCR bits 1-0 not 00, or bits 3-2 = 10 or 11"
abbrev pub setting_refused : List Event → ℕ → ℕ → Bool
setting_refused es n byte =
    pick (eqb n 0) (mode_refused A es byte)
    (pick (eqb n 8) (mode_refused B es byte) (pick (eqb n 13) (opcr_not_modelled byte) false))

abbrev pub read_number : ℕ → ℕ
read_number n = pick (ltb 15 n) 2 (pick (eqb n 2 || eqb n 10) 3 0)

abbrev pub write_number : List Event → ℕ → ℕ → ℕ
write_number es n byte =
    pick (ltb 15 n) 2
    (pick ((eqb n 2 || eqb n 10) && command_forbidden byte) 4
    (pick (setting_refused es n byte) 5
    0))

-- 6: "acknowledge while IRQ is not asserted"
unfoldable pub number_after : Chip → ℕ → List Event → Event → ℕ
number_after c levels es ChipReset = 0
number_after c levels es (Read n) = read_number n
number_after c levels es (Write n byte) = write_number es n byte
number_after c levels es Acknowledge = pick (lines_after c levels es).irq 0 6
number_after c levels es (Pins x) = 0
number_after c levels es Tick = 0

abbrev pub Numbers : Chip → Type 0
Numbers c = (levels : ℕ) (es : List Event) (e : Event) → (c levels es e).number ≡ number_after c levels es e
