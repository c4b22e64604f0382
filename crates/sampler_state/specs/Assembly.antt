-- A character put together from samples: how many there are before the stop's, and what they say. Assumes nothing.
use Rattle.std.specs.Prelude.{ℕ, ◌+◌, ◌/◌, ◌%◌, ◌^◌, Bool, false, not, eqb, ltb}
use Rattle.format.specs.declared.counts.Bits.{Bits}
use Rattle.format.specs.declared.format.Format.{Format}
use Rattle.format.specs.Pick.{pick}
use Rattle.format.specs.Parity.{has_parity_of, parity_bit_of}
use Rattle.character.specs.declared.character.Character.{Character}

-- the data bits that are sampled: a width that MR1 cannot choose, above 8, goes with 8
unfoldable pub data_width_of : Format → Bits
data_width_of f = pick (ltb f.width.0 8) f.width (record { 0 = 8 })

-- the samples before the first stop sample: the data bits, and the parity bit if any
unfoldable pub samples_of : Format → Bits
samples_of f = pick (has_parity_of f) (record { 0 = (data_width_of f).0 + 1 }) (data_width_of f)

-- One sample more, above the `k` that are taken: "data lowest bit first, parity if any".
unfoldable pub with_sample : ℕ → ℕ → Bool → ℕ
with_sample v k b = pick b (v % 2 ^ k + 2 ^ k) (v % 2 ^ k)

-- the weight of the first sample above the data bits
abbrev pub data_weight : Format → ℕ
data_weight f = 2 ^ (data_width_of f).0

-- the data bits among the samples: "Unused data bits are 0."
abbrev pub data_of : Format → ℕ → ℕ
data_of f v = v % data_weight f

-- "A wrong parity bit, forced ones too: parity mark."
unfoldable pub parity_wrong_of : Format → ℕ → Bool
parity_wrong_of f v =
    pick (has_parity_of f)
    (pick (eqb (v / data_weight f % 2) 1) (not (parity_bit_of f (data_of f v))) (parity_bit_of f (data_of f v)))
    false

-- The character that the samples before the stop make, and the stop sample: "Low stop: framing mark".
unfoldable pub character_of : Format → ℕ → Bool → Character
character_of f v stop =
    record { byte = data_of f v; marks = record { broken = false; framing = not stop; parity = parity_wrong_of f v } }
