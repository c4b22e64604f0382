-- The stop length. Assumes nothing.
use Rattle.std.specs.Prelude.{ℕ, ◌+◌, ◌/◌, ◌%◌, eqb, ltb}
use Rattle.format.specs.declared.counts.Bits.{Bits}
use Rattle.format.specs.declared.counts.Pulses.{Pulses}
use Rattle.format.specs.Pick.{pick}

-- "Stop length in sixteenths: for 5 data bits 17+c; for 6 to 8, 9+c for c up to 7, else 17+c."
-- A code is four bits, so c is taken modulo 16; a width that MR1 cannot choose goes with 6 to 8.
unfoldable pub stop_length_of : Bits → ℕ → Pulses
stop_length_of w c = record { 0 = pick (eqb w.0 5) (c % 16 + 17) (pick (ltb (c % 16) 8) (c % 16 + 9) (c % 16 + 17)) }

-- "With a 1X clock: one bit, two if bit 3 is set."
unfoldable pub stop_bits_of : ℕ → Bits
stop_bits_of c = record { 0 = pick (eqb (c / 8 % 2) 1) 2 1 }
