-- What a line says, by what is known of it. Assumes nothing.
use Rattle.std.specs.Prelude.{ℕ, Bool, ◌||◌, Option, Some, None, eqb, leb}
use Rattle.format.specs.Pick.{pick}
use Rattle.events.specs.declared.events.Event.TheVariants.{ChipReset, Read, Write, Acknowledge, Pins}
use Rattle.replay_script.specs.declared.lines.Line.{Line}
use Rattle.replay_script.specs.declared.lines.Line.TheVariants.{Skipped, Wrong, Ticks, One}
use Rattle.replay_script.specs.declared.reading.Reading.{Reading}

-- `reset`, `ack` or `tick`, each its letters in base 256 after a 1
unfoldable pub told_alone : ℕ → Line
told_alone name =
    pick (eqb name 0x1_72_65_73_65_74) (One ChipReset)
    (pick (eqb name 0x1_61_63_6b) (One Acknowledge)
    (pick (eqb name 0x1_74_69_63_6b) (Ticks (record { 0 = 1 })) Wrong))

-- `read N` or `pins B`
unfoldable pub told_with_byte : ℕ → ℕ → Line
told_with_byte name n =
    pick (eqb name 0x1_72_65_61_64) (One (Read n)) (pick (eqb name 0x1_70_69_6e_73) (One (Pins n)) Wrong)

-- `tick COUNT`, `read N` or `pins B`
unfoldable pub told_with_one : ℕ → Option ℕ → Line
told_with_one name None = Wrong
told_with_one name (Some n) =
    pick (eqb name 0x1_74_69_63_6b)
    (pick (leb n 4000000000) (Ticks (record { 0 = n })) Wrong)
    (pick (leb n 255) (told_with_byte name n) Wrong)

-- a number up to 255
unfoldable pub byte_of : Option ℕ → Option ℕ
byte_of None = None
byte_of (Some n) = pick (leb n 255) (Some n) None

-- `write N B`
unfoldable pub told_with_bytes : ℕ → Option ℕ → Option ℕ → Line
told_with_bytes name None b = Wrong
told_with_bytes name (Some n) None = Wrong
told_with_bytes name (Some n) (Some b) = pick (eqb name 0x1_77_72_69_74_65) (One (Write n b)) Wrong

abbrev pub told_with_two : ℕ → Option ℕ → Option ℕ → Line
told_with_two name n b = told_with_bytes name (byte_of n) (byte_of b)

-- a blank line or a comment
abbrev pub silent : Reading → Bool
silent r = eqb r.words 0 || r.comment

unfoldable pub told_of : Reading → Line
told_of r =
    pick (silent r) Skipped
    (pick (eqb r.words 1) (told_alone r.name)
    (pick (eqb r.words 2) (told_with_one r.name r.first)
    (pick (eqb r.words 3) (told_with_two r.name r.first r.second) Wrong)))
