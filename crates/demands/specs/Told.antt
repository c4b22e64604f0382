-- What the program has set, as the events alone tell it: each rule takes what was told so far and one event. No chip
-- stands in it. Assumes nothing.
use Rattle.std.specs.Prelude.{ℕ, ◌/◌, ◌%◌, Bool, true, false, not, ◌&&◌, ◌||◌, List, eqb}
use Rattle.format.specs.Pick.{pick}
use Rattle.format.specs.Format.{mr1_not_modelled, mr2_not_modelled}
use Rattle.events.specs.Command.{command_forbidden}
use Rattle.events.specs.declared.events.Event.{Event}
use Rattle.events.specs.declared.events.Event.TheVariants.{ChipReset, Read, Write, Acknowledge, Pins, Tick}
use Rattle.demands.specs.Chip.{Channel, register_of, over}

-- the last byte written to register n, else what a chip reset puts there
abbrev pub last_written : ℕ → ℕ → ℕ → Event → ℕ
last_written n reset x ChipReset = reset
last_written n reset x (Read m) = x
last_written n reset x (Write m byte) = pick (eqb m n) byte x
last_written n reset x Acknowledge = x
last_written n reset x (Pins levels) = x
last_written n reset x Tick = x

-- "pins (byte: bits 0-5 IP0-IP5, 6 RxDA, 7 RxDB)"; "Pin levels stay."
abbrev pub levels_then : ℕ → Event → ℕ
levels_then x ChipReset = x
levels_then x (Read m) = x
levels_then x (Write m byte) = x
levels_then x Acknowledge = x
levels_then x (Pins levels) = levels
levels_then x Tick = x

abbrev pub levels_after : ℕ → List Event → ℕ
levels_after levels es = over levels_then levels es

-- an accepted command of the channel: the write of register 2 or 10 that no 11 forbids
abbrev pub commands : Channel → ℕ → ℕ → Bool
commands ch n byte = eqb n (register_of ch 2) && not (command_forbidden byte)

-- ---- a channel's mode registers and pointer, CSR and enables ----

pub record Programmed : Type 0 where
  pub mr1 : ℕ
  pub mr2 : ℕ
  pub moved : Bool
  pub csr : ℕ
  pub receives : Bool
  pub transmits : Bool

-- "every other register .. 0, .. both sides disabled, .. pointer at MR1"
abbrev pub unprogrammed : Programmed
unprogrammed = record { mr1 = 0; mr2 = 0; moved = false; csr = 0; receives = false; transmits = false }

abbrev pub with_pointer : Programmed → Bool → Programmed
with_pointer p x =
    record { mr1 = p.mr1; mr2 = p.mr2; moved = x; csr = p.csr; receives = p.receives; transmits = p.transmits }

-- "0 MR1 then MR2 (both)"; "Any access at MR1 moves the pointer to MR2, where it stays."; a setting not modelled is
-- refused, and changes nothing
abbrev pub mode_then : Programmed → ℕ → Programmed
mode_then p byte =
    pick p.moved
    (pick (mr2_not_modelled byte) p
    (record { mr1 = p.mr1; mr2 = byte; moved = true; csr = p.csr; receives = p.receives; transmits = p.transmits }))
    (pick (mr1_not_modelled byte) p
    (record { mr1 = byte; mr2 = p.mr2; moved = true; csr = p.csr; receives = p.receives; transmits = p.transmits }))

abbrev pub csr_then : Programmed → ℕ → Programmed
csr_then p byte =
    record {
      mr1 = p.mr1;
      mr2 = p.mr2;
      moved = p.moved;
      csr = byte;
      receives = p.receives;
      transmits = p.transmits;
    }

-- "01 enable, 10 disable": an enable stands as the last command that names it left it
abbrev pub named : ℕ → Bool → Bool
named bits enabled = pick (eqb bits 1) true (pick (eqb bits 2) false enabled)

-- "bits 6-4 first, then 3-2 (01 enable, 10 disable transmitter), then 1-0 (receiver). 1 pointer to MR1; 2 reset
-- receiver (disabled; ..); 3 reset transmitter (disabled, ..)"; a command with 11 is refused, and changes nothing
abbrev pub command_then : Programmed → ℕ → Programmed
command_then p byte =
    pick (command_forbidden byte) p
    (record {
      mr1 = p.mr1;
      mr2 = p.mr2;
      moved = p.moved && not (eqb (byte / 16 % 8) 1);
      csr = p.csr;
      receives = named (byte % 4) (p.receives && not (eqb (byte / 16 % 8) 2));
      transmits = named (byte / 4 % 4) (p.transmits && not (eqb (byte / 16 % 8) 3));
    })

unfoldable pub programmed_then : Channel → Programmed → Event → Programmed
programmed_then ch p ChipReset = unprogrammed
programmed_then ch p (Read n) = pick (eqb n (register_of ch 0)) (with_pointer p true) p
programmed_then ch p (Write n byte) =
    pick (eqb n (register_of ch 0)) (mode_then p byte)
    (pick (eqb n (register_of ch 1)) (csr_then p byte)
    (pick (eqb n (register_of ch 2)) (command_then p byte)
    p))
programmed_then ch p Acknowledge = p
programmed_then ch p (Pins levels) = p
programmed_then ch p Tick = p

-- since a chip reset
abbrev pub programmed : Channel → List Event → Programmed
programmed ch es = over (programmed_then ch) unprogrammed es

-- ---- order 2: a channel's mode ----

-- MR2 bits 7-6: 00 normal, 01 automatic echo, 10 local loopback, 11 remote loopback
abbrev pub mode_bits : Programmed → ℕ
mode_bits p = p.mr2 / 64 % 4

abbrev pub in_normal : Programmed → Bool
in_normal p = eqb (mode_bits p) 0

abbrev pub in_local : Programmed → Bool
in_local p = eqb (mode_bits p) 2

abbrev pub in_remote : Programmed → Bool
in_remote p = eqb (mode_bits p) 3

-- "Remote loopback: the same echo"
abbrev pub in_echo : Programmed → Bool
in_echo p = eqb (mode_bits p) 1 || in_remote p

-- "A mode change": an accepted write to MR2, where the pointer is, of other bits 7-6 than those in force
abbrev pub mode_changes : Channel → Programmed → ℕ → ℕ → Bool
mode_changes ch p n byte =
    eqb n (register_of ch 0)
    && (p.moved && (not (mr2_not_modelled byte) && not (eqb (byte / 64 % 4) (mode_bits p))))
