-- The output pins. Assumes nothing.
use Rattle.std.specs.Prelude.{ℕ, ◌-◌, ◌/◌, ◌%◌, Bool, not, ◌||◌, eqb}
use Rattle.std.specs.Int.Bits.{bit_and, bit_or}
use Rattle.format.specs.Pick.{pick}
use Rattle.byte_bits.specs.Bytes.{has_bit, byte_of}
use Rattle.outputs.specs.declared.outputs.Outputs.{Outputs}

-- "Chip reset: .. every other register, .. and output bit 0"
abbrev pub fresh_outputs : Outputs
fresh_outputs = record { bits = 0; opcr = 0 }

-- "14 .. set OP bits; 15 .. reset OP bits"
abbrev pub bits_set : Outputs → ℕ → Outputs
bits_set o byte = record { bits = bit_or o.bits byte; opcr = o.opcr }

abbrev pub bits_reset : Outputs → ℕ → Outputs
bits_reset o byte = record { bits = bit_and o.bits (255 - byte); opcr = o.opcr }

abbrev pub outputs_chosen : Outputs → ℕ → Outputs
outputs_chosen o opcr = record { bits = o.bits; opcr = opcr }

-- "OPCR bits 1-0 not 00, or bits 3-2 = 10 or 11": bit 3 is then set
abbrev pub opcr_not_modelled : ℕ → Bool
opcr_not_modelled opcr = not (eqb (opcr % 4) 0) || eqb (opcr / 8 % 2) 1

-- ---- the levels, each the complement of what drives its pin ----

-- "OPCR bits 7, 6, 5, 4 turn OP7, 6, 5, 4 into the complement of ISR bits 4, 0, 5, 1."
unfoldable pub driven_by : Outputs → ℕ → ℕ → ℕ → Bool
driven_by o isr pin source = pick (has_bit o.opcr pin) (has_bit isr source) (has_bit o.bits pin)

-- "OPCR 3-2 = 01 puts the timer output on OP3, or in counter mode the complement of ISR bit 3.": `timer` is that level
unfoldable pub driven_op3 : Outputs → Bool → Bool
driven_op3 o timer = pick (eqb (o.opcr / 4 % 4) 1) (not timer) (has_bit o.bits 3)

-- "OP pins are the complement of the output bits."
unfoldable pub op_levels : Outputs → ℕ → Bool → ℕ
op_levels o isr timer =
    255 - byte_of (driven_by o isr 7 4) (driven_by o isr 6 0) (driven_by o isr 5 5) (driven_by o isr 4 1)
    (driven_op3 o timer) (has_bit o.bits 2) (has_bit o.bits 1) (has_bit o.bits 0)
