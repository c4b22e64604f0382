-- A frame: its bits, its levels pulse by pulse, its length. One definition for every width and both clocks. Assumes
-- nothing.
use Rattle.std.specs.Prelude.{ℕ, ◌+◌, ◌-◌, ◌*◌, ◌/◌, ◌%◌, ◌^◌, Bool, true, false, List, [], ◌∷◌, ◌++◌, eqb, ltb, length}
use Rattle.std.specs.Prelude.{replicate}
use Rattle.format.specs.declared.counts.Bits.{Bits}
use Rattle.format.specs.declared.counts.Pulses.{Pulses}
use Rattle.format.specs.declared.format.Format.{Format}
use Rattle.frame.specs.declared.levels.FrameBits.{FrameBits}
use Rattle.format.specs.Pick.{pick}
use Rattle.format.specs.Digits.{value_of}
use Rattle.format.specs.Parity.{data_bits, has_parity_of, parity_bits}
use Rattle.format.specs.Stop.{stop_length_of, stop_bits_of}

-- "Start bit 0, data lowest bit first, parity if any, stop": the bits before the stop
unfoldable pub before_stop : Format → ℕ → List Bool
before_stop f x = false ∷ data_bits f x ++ parity_bits f x

-- how many they are
unfoldable pub bits_before_stop_of : Format → Bits
bits_before_stop_of f = record { 0 = pick (has_parity_of f) (f.width.0 + 2) (f.width.0 + 1) }

-- each bit for `k` pulses
unfoldable pub spread : ℕ → List Bool → List Bool
spread k [] = []
spread k (b ∷ bs) = replicate k b ++ spread k bs

-- the levels, one a pulse: each bit for `k` pulses, then a stop of `n` high pulses
unfoldable pub levels : ℕ → ℕ → List Bool → List Bool
levels k n bs = spread k bs ++ replicate n true

-- pulses a bit: 16 with a 16X clock, 1 with a 1X clock
abbrev pub pulses_per_bit : Bool → ℕ
pulses_per_bit sixteen = pick sixteen 16 1

-- the stop in pulses: its sixteenths with a 16X clock, its whole bits with a 1X clock
abbrev pub stop_pulses : Bool → Format → ℕ → ℕ
stop_pulses sixteen f c = pick sixteen (stop_length_of f.width c).0 (stop_bits_of c).0

-- the levels of the frame of byte `x` in format `f` with stop code `c`
unfoldable pub frame : Bool → Format → ℕ → ℕ → List Bool
frame sixteen f c x = levels (pulses_per_bit sixteen) (stop_pulses sixteen f c) (before_stop f x)

-- "frame length is the format's sum": the start bit, the data bits and the parity bit, if any, and the stop
unfoldable pub frame_length_of : Bool → Format → ℕ → Pulses
frame_length_of sixteen f c = record { 0 = pulses_per_bit sixteen * (bits_before_stop_of f).0 + stop_pulses sixteen f c }

-- the bits before the stop as sixteen bits of a shift register: the line is high past them
unfoldable pub frame_bits_of : Format → ℕ → FrameBits
frame_bits_of f x =
    let bs : List Bool = before_stop f x in
    record { 0 = value_of (bs ++ replicate (16 - length bs) true) }

-- bit `i` of the register, and high past its end
unfoldable pub level_of : FrameBits → Bits → Bool
level_of r i = pick (ltb i.0 16) (eqb (r.0 / 2 ^ i.0 % 2) 1) true
