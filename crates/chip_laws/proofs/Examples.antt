-- Each number of the table of answers is given: an event on a device with the whole answer, computed; and so is a chip reset of any sound device.
-- 7 is given to none on a sound device, and an unsound one is answered 1. Assumes nothing.
use Prim.Native.Nat.{ℕ}
use mathlib.Core.Path.{◌≡◌, refl, ◌∙◌}
use mathlib.Core.Bool.{Bool, true, false}
use mathlib.Core.List.{List, [], ◌∷◌}
use native.Mathlib.Omega.{arith}
use Rattle.format.proofs.Laws.Pick.{pick_yes}
use Rattle.front_side.specs.Side.{fresh_side, with_modes}
use Rattle.front.specs.Front.{with_sides, with_ports}
use Rattle.events.specs.declared.events.Event.{Event}
use Rattle.events.specs.declared.events.Event.TheVariants.{ChipReset, Read, Write, Acknowledge}
use Rattle.chip_answers.specs.declared.answers.Lines.{Lines}
use Rattle.chip_device.specs.declared.device.Device.{Device}
use Rattle.chip_step.specs.declared.chip.Answer.{Answer}
use Rattle.chip_device.specs.Device.{fresh_device}
use Rattle.chip_step.specs.Chip.{step_of}
use Rattle.chip_laws.specs.Sound.{after}
use Rattle.chip_laws.specs.Table.{Step}
use Rattle.chip_laws.proofs.Computing.{computing}
use Rattle.chip_laws.proofs.Table.{table}

-- ---- the devices ----

-- the fresh device after some events
abbrev pub then : List Event → Device
then es = after step_of fresh_device es

-- IMR bit 0, and transmitter A enabled: ISR bit 0
abbrev pub asking : Device
asking = then (Write 5 1 ∷ Write 2 4 ∷ [])

-- the fresh device with other change flags; there are four, so that a fifth is unsound
abbrev pub flagged : ℕ → Device
flagged changes =
    record {
      front = with_ports fresh_device.front (record { levels = 255; changes = changes }) fresh_device.front.outputs;
      a = fresh_device.a;
      b = fresh_device.b;
    }

abbrev pub broken : Device
broken = flagged 16

-- the fresh device with MR1 and MR2 of channel A written
abbrev pub with_modes_a : ℕ → ℕ → Device
with_modes_a mr1 mr2 =
    record {
      front = with_sides fresh_device.front (with_modes fresh_side mr1 mr2 true) fresh_side fresh_device.front.timer;
      a = fresh_device.a;
      b = fresh_device.b;
    }

abbrev pub with_mode : ℕ → Device
with_mode mr1 = with_modes_a mr1 0

-- a write that is taken, with no line changed
abbrev taken : Device → Answer
taken d = record { number = 0; byte = 0; fresh = false; lines = record { irq = false; txda = true; txdb = true; op = 255 }; state = d }

-- ---- the answers ----

-- both TxD and all OP pins high, and IRQ asserted or not
abbrev pub idle_lines : Bool → Lines
idle_lines irq = record { irq = irq; txda = true; txdb = true; op = 255 }

-- "for 1, all lines 0": IRQ, TxDA, TxDB and the OP pins
abbrev pub dark_lines : Lines
dark_lines = record { irq = false; txda = false; txdb = false; op = 0 }

-- "Refused: data 0, the state as given"
abbrev pub refused : ℕ → Device → Answer
refused n d = record { number = n; byte = 0; fresh = false; lines = idle_lines false; state = d }

pub record Examples : Type 0 where
  -- MR1 19: 8 data bits, no parity
  pub accepted : step_of fresh_device (Write 0 19) ≡ record { number = 0; byte = 0; fresh = false; lines = idle_lines false; state = with_mode 19 }
  -- "for 1, all lines 0", even where the event would mend it or another row applies
  pub unsound_reset : step_of broken ChipReset ≡ record { number = 1; byte = 0; fresh = false; lines = dark_lines; state = broken }
  pub unsound_read : step_of broken (Read 16) ≡ record { number = 1; byte = 0; fresh = false; lines = dark_lines; state = broken }
  pub read_16 : step_of fresh_device (Read 16) ≡ refused 2 fresh_device
  pub write_16 : step_of fresh_device (Write 16 0) ≡ refused 2 fresh_device
  pub read_2 : step_of fresh_device (Read 2) ≡ refused 3 fresh_device
  pub read_10 : step_of fresh_device (Read 10) ≡ refused 3 fresh_device
  -- bits 3-2 and bits 1-0
  pub command_12 : step_of fresh_device (Write 2 12) ≡ refused 4 fresh_device
  pub command_3 : step_of fresh_device (Write 10 3) ≡ refused 4 fresh_device
  pub mr1_128 : step_of fresh_device (Write 0 128) ≡ refused 5 fresh_device
  pub mr1_24 : step_of fresh_device (Write 8 24) ≡ refused 5 fresh_device
  -- where the pointer has moved to MR2
  pub mr2_32 : step_of (with_mode 19) (Write 0 32) ≡ refused 5 (with_mode 19)
  pub mr2_160 : step_of (with_mode 19) (Write 0 160) ≡ refused 5 (with_mode 19)
  pub mr2_255 : step_of (with_mode 19) (Write 0 255) ≡ refused 5 (with_mode 19)
  -- order 2: "5 no longer covers MR2 bits 7-6"
  pub mr2_64 : step_of (with_mode 19) (Write 0 64) ≡ taken (with_modes_a 19 64)
  pub mr2_128 : step_of (with_mode 19) (Write 0 128) ≡ taken (with_modes_a 19 128)
  pub mr2_223 : step_of (with_mode 19) (Write 0 223) ≡ taken (with_modes_a 19 223)
  pub opcr_1 : step_of fresh_device (Write 13 1) ≡ refused 5 fresh_device
  pub opcr_2 : step_of fresh_device (Write 13 2) ≡ refused 5 fresh_device
  pub opcr_8 : step_of fresh_device (Write 13 8) ≡ refused 5 fresh_device
  pub opcr_12 : step_of fresh_device (Write 13 12) ≡ refused 5 fresh_device
  pub unasserted : step_of fresh_device Acknowledge ≡ refused 6 fresh_device
  -- "acknowledge then reads IVR and changes nothing"
  pub asserted : step_of asking Acknowledge ≡ record { number = 0; byte = 15; fresh = false; lines = idle_lines true; state = asking }

pub examples : Examples
unfolding computing
examples =
    record {
      accepted = refl;
      unsound_reset = refl;
      unsound_read = refl;
      read_16 = refl;
      write_16 = refl;
      read_2 = refl;
      read_10 = refl;
      command_12 = refl;
      command_3 = refl;
      mr1_128 = refl;
      mr1_24 = refl;
      mr2_32 = refl;
      mr2_160 = refl;
      mr2_255 = refl;
      mr2_64 = refl;
      mr2_128 = refl;
      mr2_223 = refl;
      opcr_1 = refl;
      opcr_2 = refl;
      opcr_8 = refl;
      opcr_12 = refl;
      unasserted = refl;
      asserted = refl;
    }

-- ---- answer 1 ----

-- "(for 1, all lines 0)": to any device and any event. The statement takes the step it speaks of.
abbrev pub Dark : Step → Type 0
Dark step = (d : Device) (e : Event) → (step d e).number ≡ 1 → (step d e).lines ≡ dark_lines

pub dark : Dark step_of
dark d e one = table.lines d e (λ (none : (step_of d e).number ≡ 0). omega (arith, none, one)) ∙ pick_yes _ _ _ (rw one)
