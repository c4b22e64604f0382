-- The registers by their numbers: a device in which they hold different values, the byte that each read answers and what each write changes. Each is
-- computed once; the statements take the step they speak of, so that a chip with two numbers exchanged is refuted by them. Assumes nothing.
use Prim.Native.Nat.{ℕ}
use mathlib.Core.Path.{◌≡◌, refl}
use mathlib.Core.Bool.{Bool, true, false}
use mathlib.Core.List.{List, [], ◌∷◌, ◌++◌, map}
use lib.ListN.{replicate, set}
use Rattle.format.specs.Pick.{pick}
use Rattle.format.specs.Digits.{bit}
use Rattle.events.specs.declared.events.Event.{Event}
use Rattle.events.specs.declared.events.Event.TheVariants.{Read, Write, Pins, Tick}
use Rattle.front.specs.declared.front.Front.{Front}
use Rattle.chip_device.specs.declared.device.Device.{Device}
use Rattle.chip_device.specs.Device.{fresh_device}
use Rattle.chip_step.specs.Chip.{step_of}
use Rattle.chip_laws.specs.Sound.{after}
use Rattle.chip_laws.specs.Table.{Step}
use Rattle.chip_laws.proofs.Computing.{computing}

-- ---- the device ----

-- pulses of receiver A on rising IP4, of receiver B on rising IP2, with the line at these levels and every other pin high
abbrev pub to_a : List Bool → List Event
to_a [] = []
to_a (level ∷ ls) = Pins (pick level 239 175) ∷ Pins (pick level 255 191) ∷ to_a ls

abbrev pub to_b : List Bool → List Event
to_b [] = []
to_b (level ∷ ls) = Pins (pick level 251 123) ∷ Pins (pick level 255 127) ∷ to_b ls

-- a high, and 85 with 8 data bits and no parity
abbrev eighty_five : List Bool
eighty_five = true ∷ false ∷ true ∷ false ∷ true ∷ false ∷ true ∷ false ∷ true ∷ false ∷ true ∷ []

-- a high, and 66 with 7 data bits, no parity and a low stop
abbrev sixty_six : List Bool
sixty_six = true ∷ false ∷ false ∷ true ∷ false ∷ false ∷ false ∷ false ∷ true ∷ false ∷ []

-- A: MR1 19, MR2 7 and the pointer back at MR1; B: MR1 18, MR2 15; all four sides enabled. ACR 52: counter on ticks/16, and ISR bit 7 by IP2. The
-- preload is 18 · 256 + 52, and started. 85 comes at A and 66 at B, at 1X; then IP0 falls.
abbrev pub differing : List Event
differing =
    (Write 0 19 ∷ Write 0 7 ∷ Write 2 21 ∷ Write 8 18 ∷ Write 8 15 ∷ Write 10 5 ∷ Write 1 255 ∷ Write 9 255 ∷ Write 4 52 ∷ Write 6 18 ∷ Write 7 52 ∷ Read 14
    ∷ Write 12 78 ∷ Write 5 3 ∷ Write 13 64 ∷ Write 14 5 ∷ [])
    ++ to_a eighty_five ++ to_b sixty_six ++ Pins 254 ∷ Write 1 187 ∷ Write 9 204 ∷ []

abbrev pub told : Step → List Event → Device
told step es = after step fresh_device (differing ++ es)

-- ---- the reads ----

-- the bytes that reads of these registers answer, each on the device after the same events
abbrev pub byte_read : Step → Device → ℕ → ℕ
byte_read step d n = (step d (Read n)).byte

abbrev pub answers : Step → List Event → List ℕ → List ℕ
answers step es ns = map (byte_read step (told step es)) ns

-- "Read / write: 0 MR1 then MR2 (both); 1 SR / CSR; .. 3 receive / transmit buffer; 4 IPCR / ACR; 5 ISR / IMR; 6, 7 count high, low / preload high,
-- low; 8-11 as 0-3 for channel B; 12 IVR (both); 13 input port / OPCR; 14 start counter / ..; 15 stop counter / .."
pub record Reads (step : Step) : Type 0 where
  -- registers 0, 1, 3 to 9 and 11 to 15: MR1A, SRA, 85, IPCR, ISR, count high, low, MR2B, SRB, 66, IVR, input port, "Start and stop read 0."
  pub bytes :
      answers step [] (0 ∷ 1 ∷ 3 ∷ 4 ∷ 5 ∷ 6 ∷ 7 ∷ 8 ∷ 9 ∷ 11 ∷ 12 ∷ 13 ∷ 14 ∷ 15 ∷ [])
      ≡ 19 ∷ 13 ∷ 85 ∷ 94 ∷ 179 ∷ 18 ∷ 52 ∷ 15 ∷ 77 ∷ 66 ∷ 78 ∷ 254 ∷ 0 ∷ 0 ∷ []
  -- "MR1 then MR2": MR2A after a read of MR1A; MR1B after command 1
  pub second : answers step (Read 0 ∷ []) (0 ∷ 8 ∷ []) ≡ 7 ∷ 15 ∷ []
  pub first : answers step (Write 10 16 ∷ []) (0 ∷ 8 ∷ []) ≡ 19 ∷ 18 ∷ []
  -- "14 start counter": it counts from the preload; "15 stop counter": it does not
  pub started : answers step (Tick ∷ Read 14 ∷ replicate 31 Tick) (6 ∷ 7 ∷ []) ≡ 18 ∷ 50 ∷ []
  pub stopped : answers step (Tick ∷ Read 15 ∷ replicate 31 Tick) (6 ∷ 7 ∷ []) ≡ 18 ∷ 52 ∷ []
  -- "2 none", and 10 as 2 for B: answer 3
  pub none : map (λ (n : ℕ). (step (told step []) (Read n)).number) (2 ∷ 10 ∷ 1 ∷ 9 ∷ []) ≡ 3 ∷ 3 ∷ 0 ∷ 0 ∷ []

pub reads : Reads step_of
unfolding computing
reads = record { bytes = refl; second = refl; first = refl; started = refl; stopped = refl; none = refl }

-- ---- the writes ----

-- what the registers hold: MR1A, MR2A, CSRA and A's transmit buffer; ACR, IMR and the preload; the same four of B; IVR, OPCR and the output bits; and
-- whether A's transmitter and receiver, and B's, are enabled
abbrev pub held : Device → List ℕ
held d =
    let f : Front = d.front in
    f.a.mr1 ∷ f.a.mr2 ∷ f.a.csr ∷ f.a.transmitter.holding ∷ f.acr ∷ f.imr ∷ f.timer.preload
    ∷ f.b.mr1 ∷ f.b.mr2 ∷ f.b.csr ∷ f.b.transmitter.holding ∷ f.ivr ∷ f.outputs.opcr ∷ f.outputs.bits
    ∷ bit f.a.transmitter.enabled ∷ bit f.a.enabled ∷ bit f.b.transmitter.enabled ∷ bit f.b.enabled ∷ []

abbrev pub wrote : Step → List Event → ℕ → ℕ → List ℕ
wrote step es n byte = held (step (told step es) (Write n byte)).state

-- as they stand on the device
abbrev pub kept : List ℕ
kept = 19 ∷ 7 ∷ 187 ∷ 0 ∷ 52 ∷ 3 ∷ 4660 ∷ 18 ∷ 15 ∷ 204 ∷ 0 ∷ 78 ∷ 64 ∷ 5 ∷ 1 ∷ 1 ∷ 1 ∷ 1 ∷ []

-- the same sentence: each write changes its own register and no other
pub record Writes (step : Step) : Type 0 where
  pub before : held (told step []) ≡ kept
  -- "0 MR1 then MR2"; "8-11 as 0-3 for channel B", where the pointer is at MR2, and at MR1 after command 1
  pub mr1a : wrote step [] 0 16 ≡ set kept 0 16
  pub mr2a : wrote step (Read 0 ∷ []) 0 9 ≡ set kept 1 9
  pub mr1b : wrote step (Write 10 16 ∷ []) 8 17 ≡ set kept 7 17
  pub mr2b : wrote step [] 8 9 ≡ set kept 8 9
  -- "1 .. CSR"
  pub csra : wrote step [] 1 34 ≡ set kept 2 34
  pub csrb : wrote step [] 9 51 ≡ set kept 9 51
  -- "2 .. command": 10, transmitter and receiver disabled; 2, receiver disabled
  pub commanda : wrote step [] 2 10 ≡ set (set kept 14 0) 15 0
  pub commandb : wrote step [] 10 2 ≡ set kept 17 0
  -- "3 .. transmit buffer"
  pub buffera : wrote step [] 3 85 ≡ set kept 3 85
  pub bufferb : wrote step [] 11 86 ≡ set kept 10 86
  -- "4 .. ACR; 5 .. IMR; 6, 7 .. preload high, low"
  pub acr : wrote step [] 4 65 ≡ set kept 4 65
  pub imr : wrote step [] 5 66 ≡ set kept 5 66
  pub high : wrote step [] 6 2 ≡ set kept 6 564
  pub low : wrote step [] 7 2 ≡ set kept 6 4610
  -- "12 IVR (both); 13 .. OPCR; 14 .. set OP bits; 15 .. reset OP bits"
  pub ivr : wrote step [] 12 67 ≡ set kept 11 67
  pub opcr : wrote step [] 13 68 ≡ set kept 12 68
  pub bits_set : wrote step [] 14 12 ≡ set kept 13 13
  pub bits_reset : wrote step [] 15 12 ≡ set kept 13 1

pub writes : Writes step_of
unfolding computing
writes =
    record {
      before = refl;
      mr1a = refl;
      mr2a = refl;
      mr1b = refl;
      mr2b = refl;
      csra = refl;
      csrb = refl;
      commanda = refl;
      commandb = refl;
      buffera = refl;
      bufferb = refl;
      acr = refl;
      imr = refl;
      high = refl;
      low = refl;
      ivr = refl;
      opcr = refl;
      bits_set = refl;
      bits_reset = refl;
    }
