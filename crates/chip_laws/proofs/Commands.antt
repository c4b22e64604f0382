-- Commands 0 to 7 on literal bytes: what status, ISR, register 0 and TxDA show after each, computed on a device on which each of them is seen. The
-- statement takes the step it speaks of, so that a chip with two commands exchanged is refuted by it. Assumes nothing.
use Prim.Native.Nat.{ℕ}
use mathlib.Core.Path.{◌≡◌, refl}
use mathlib.Core.Bool.{Bool, true, false}
use mathlib.Core.List.{List, [], ◌∷◌, ◌++◌, map}
use lib.ListN.{replicate}
use Rattle.format.specs.Digits.{bit}
use Rattle.events.specs.declared.events.Event.{Event}
use Rattle.events.specs.declared.events.Event.TheVariants.{Read, Write, Pins}
use Rattle.chip_device.specs.declared.device.Device.{Device}
use Rattle.chip_device.specs.Device.{fresh_device}
use Rattle.chip_step.specs.Chip.{step_of}
use Rattle.chip_laws.specs.Sound.{after}
use Rattle.chip_laws.specs.Table.{Step}
use Rattle.chip_laws.proofs.Computing.{computing}
use Rattle.chip_laws.proofs.Registers.{to_a}

-- ---- the devices ----

-- a break, its end, 255 three times, and a start, at 1X with 8 data bits and no parity
abbrev overrunning : List Bool
overrunning =
    true ∷ replicate 10 false ++ true ∷ (false ∷ replicate 9 true) ++ (false ∷ replicate 9 true) ++ (false ∷ replicate 9 true) ++ false ∷ []

-- A, enabled, hears it: break at the top, three in the queue, overrun and break change. The pointer is at MR2.
abbrev pub busy : ℕ → List Event
busy mr1 = (Write 0 mr1 ∷ Write 0 7 ∷ Write 1 255 ∷ Write 2 5 ∷ []) ++ to_a overrunning

-- A's transmitter pulses on falling IP3: the same, in a break of its own
abbrev pub breaking : List Event
breaking = busy 19 ++ Write 2 96 ∷ Pins 183 ∷ []

-- SRA, ISR, register 0, and TxDA after a pulse
abbrev pub shown : Step → Device → List ℕ
shown step d = (step d (Read 1)).byte ∷ (step d (Read 5)).byte ∷ (step d (Read 0)).byte ∷ bit (step d (Pins 183)).lines.txda ∷ []

-- after a command: TxDA where it came in a break, and what is shown where it did not
abbrev pub looks : Step → Device → Device → ℕ → List ℕ
looks step d in_break byte = bit (step in_break (Write 2 byte)).lines.txda ∷ shown step (step d (Write 2 byte)).state

abbrev pub looks_at : Step → List ℕ → List (List ℕ)
looks_at step bytes = map (looks step (after step fresh_device (busy 19)) (after step fresh_device breaking)) bytes

-- ---- the statement ----

-- TxDA where the command came in a break; and where it did not SRA, ISR, register 0 and TxDA after a pulse, of commands 0 to 7:
-- "1 pointer to MR1; 2 reset receiver (disabled; queue, waiting place and assembly cleared; overrun mark stays); 3 reset transmitter (disabled, all
-- dropped, TxD high); 4 clear overrun, block sums and the top character's marks; 5 clear break change; 6, 7 start, stop break."
abbrev pub effects : List (List ℕ)
effects =
    (0 ∷ 159 ∷ 7 ∷ 7 ∷ 1 ∷ [])
    ∷ (0 ∷ 159 ∷ 7 ∷ 19 ∷ 1 ∷ [])
    ∷ (0 ∷ 28 ∷ 5 ∷ 7 ∷ 1 ∷ [])
    ∷ (1 ∷ 147 ∷ 6 ∷ 7 ∷ 1 ∷ [])
    ∷ (0 ∷ 15 ∷ 7 ∷ 7 ∷ 1 ∷ [])
    ∷ (0 ∷ 159 ∷ 3 ∷ 7 ∷ 1 ∷ [])
    ∷ (0 ∷ 159 ∷ 7 ∷ 7 ∷ 0 ∷ [])
    ∷ (1 ∷ 159 ∷ 7 ∷ 7 ∷ 1 ∷ [])
    ∷ []

pub record Commands (step : Step) : Type 0 where
  pub eight : looks_at step (0 ∷ 16 ∷ 32 ∷ 48 ∷ 64 ∷ 80 ∷ 96 ∷ 112 ∷ []) ≡ effects
  -- "bit 7 ignored"
  pub ignored : looks_at step (128 ∷ 144 ∷ 160 ∷ 176 ∷ 192 ∷ 208 ∷ 224 ∷ 240 ∷ []) ≡ effects
  -- 0 and 4 with block errors (MR1 bit 5), after the break was read: SRA is that of the sums
  pub block :
      map (λ (byte : ℕ). (step (after step fresh_device (busy 51 ++ Read 3 ∷ Write 2 byte ∷ [])) (Read 1)).byte) (0 ∷ 64 ∷ []) ≡ 157 ∷ 13 ∷ []

pub commands : Commands step_of
unfolding computing
commands = record { eight = refl; ignored = refl; block = refl }
