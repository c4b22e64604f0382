-- What MR1 and MR2 choose. Assumes nothing.
use Rattle.std.specs.Prelude.{ℕ, ◌+◌, ◌/◌, ◌%◌, Bool, ◌||◌, eqb}
use Rattle.format.specs.declared.format.Format.{Format}

-- "Not modelled (5): MR1 bit 7 set or bits 4-3 = 11"
abbrev pub mr1_not_modelled : ℕ → Bool
mr1_not_modelled mr1 = eqb (mr1 / 128 % 2) 1 || eqb (mr1 / 8 % 4) 3

-- "MR2 .. bit 5 set"; order 2: "5 no longer covers MR2 bits 7-6."
abbrev pub mr2_not_modelled : ℕ → Bool
mr2_not_modelled mr2 = eqb (mr2 / 32 % 2) 1

-- "MR1: .. 4-3 parity 00 with, 01 forced, 10 none; 2 odd, or forced high; 1-0 data bits less 5."
unfoldable pub format_of : ℕ → Format
format_of mr1 = record { width = record { 0 = mr1 % 4 + 5 }; parity = mr1 / 8 % 4; odd = eqb (mr1 / 4 % 2) 1 }

-- "MR2: .. 3-0 stop code c."
abbrev pub stop_code_of : ℕ → ℕ
stop_code_of mr2 = mr2 % 16
