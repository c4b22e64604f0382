-- Demand 1: "Every call on every state and event ends with an answer. A register above 15, a forbidden access or a
-- setting we don't model is refused by number, with data 0 and the chip's state unaltered; a refused frame request
-- writes nothing into the space it was lent." That a call ends with an answer is each routine's contract, which asks
-- nothing of a caller: docs/PROMISES.md. Assumes nothing.
use Rattle.std.specs.Prelude.{ℕ, ◌<◌, ◌≤◌, ◌≡◌, true, false, ◌||◌, List, ◌++◌, length, drop}
use Rattle.format.specs.Format.{mr1_not_modelled, mr2_not_modelled}
use Rattle.format.specs.Pick.{pick}
use Rattle.request.specs.declared.request.FrameAnswer.{FrameAnswer}
use Rattle.request.specs.Request.{length_asked, levels_asked, request_of, space_after}
use Rattle.outputs.specs.Outputs.{opcr_not_modelled}
use Rattle.events.specs.Command.{command_forbidden}
use Rattle.events.specs.declared.events.Event.{Event}
use Rattle.events.specs.declared.events.Event.TheVariants.{Read, Write}
use Rattle.chip_device.specs.declared.device.Device.{Device}
use Rattle.chip_device.specs.Device.{is_sound_of}
use Rattle.chip_laws.specs.Table.{Step, Table}
use Rattle.demands.specs.Chip.{Channel, register_of}
use Rattle.demands.specs.Clocks.{side_of}

-- a way to answer a frame request: MR1, MR2, a byte, and the space that it is lent; the answer, and what the space
-- holds then
abbrev pub Request : Type 0
Request = ℕ → ℕ → ℕ → List ℕ → FrameAnswer × List ℕ

abbrev pub request_frame : Request
request_frame mr1 mr2 x space = (request_of mr1 mr2 (length space), space_after mr1 mr2 x space)

pub record Demand1 (step : Step) (request : Request) : Type 0 where
  -- each number "Given exactly when" its row applies first, the accepted one too; refused, the data byte is 0, the
  -- state stays, and so do the lines ("for 1, all lines 0")
  pub table : Table step
  -- no number but the table's: 8 is the frame request's
  pub answered : (d : Device) (e : Event) → (step d e).number ≤ 7
  -- "A register above 15"
  pub above_read : (d : Device) (n : ℕ) → is_sound_of d ≡ true → 15 < n → (step d (Read n)).number ≡ 2
  pub above_written : (d : Device) (n byte : ℕ) → is_sound_of d ≡ true → 15 < n → (step d (Write n byte)).number ≡ 2
  -- "a forbidden access": 3, and 4
  pub forbidden_read : (d : Device) (ch : Channel) → is_sound_of d ≡ true → (step d (Read (register_of ch 2))).number ≡ 3
  pub forbidden_command : (d : Device) (ch : Channel) (byte : ℕ) → is_sound_of d ≡ true → command_forbidden byte ≡ true
      → (step d (Write (register_of ch 2) byte)).number ≡ 4
  -- "a setting we don't model": in MR1 or MR2, where the channel's pointer is, and in OPCR
  pub mode : (d : Device) (ch : Channel) (byte : ℕ) → is_sound_of d ≡ true
      → pick (side_of ch d.front).moved (mr2_not_modelled byte) (mr1_not_modelled byte) ≡ true
      → (step d (Write (register_of ch 0) byte)).number ≡ 5
  pub opcr : (d : Device) (byte : ℕ) → is_sound_of d ≡ true → opcr_not_modelled byte ≡ true
      → (step d (Write 13 byte)).number ≡ 5
  -- the frame request: 5 before 8, else 0 and its length, which is 0 if refused
  pub setting : (mr1 mr2 x : ℕ) (space : List ℕ) → (mr1_not_modelled mr1 || mr2_not_modelled mr2) ≡ true
      → (request mr1 mr2 x space).0.number ≡ 5
  pub short : (mr1 mr2 x : ℕ) (space : List ℕ) → (mr1_not_modelled mr1 || mr2_not_modelled mr2) ≡ false
      → length space < (length_asked mr1 mr2).0
      → (request mr1 mr2 x space).0.number ≡ 8
  pub given : (mr1 mr2 x : ℕ) (space : List ℕ) → (mr1_not_modelled mr1 || mr2_not_modelled mr2) ≡ false
      → (length_asked mr1 mr2).0 ≤ length space
      → (request mr1 mr2 x space).0 ≡ record { number = 0; length = length_asked mr1 mr2 }
  pub none : (mr1 mr2 x : ℕ) (space : List ℕ) → ((request mr1 mr2 x space).0.number ≡ 0 → ⊥)
      → (request mr1 mr2 x space).0.length.0 ≡ 0
  -- "at most 192"
  pub most : (mr1 mr2 x : ℕ) (space : List ℕ) → (request mr1 mr2 x space).0.length.0 ≤ 192
  -- accepted, the space holds the frame's levels and "space past it stays"
  pub written : (mr1 mr2 x : ℕ) (space : List ℕ) → (request mr1 mr2 x space).0.number ≡ 0
      → (request mr1 mr2 x space).1 ≡ levels_asked mr1 mr2 x ++ drop (length_asked mr1 mr2).0 space
  -- "a refused frame request writes nothing into the space it was lent"
  pub untouched : (mr1 mr2 x : ℕ) (space : List ℕ) → ((request mr1 mr2 x space).0.number ≡ 0 → ⊥)
      → (request mr1 mr2 x space).1 ≡ space
