-- Wrong answers, each shut out by a definition: a routine that gave it would not meet its contract. Assumes nothing.
use Prim.Native.Nat.{ℕ, ◌+◌, ◌*◌, ◌/◌, ◌%◌, ◌^◌, ◌<◌}
use mathlib.Core.Path.{◌≡◌}
use mathlib.Core.Bool.{true, false, true≢false, false≢true}
use native.Mathlib.Omega.{arith}
use lib.Dec.{eqb}
use Rattle.format.specs.declared.counts.Bits.{Bits}
use Rattle.format.specs.Pick.{pick}
use Rattle.format.specs.Digits.{bits_of, value_of, odd_ones}
use Rattle.format.specs.Format.{format_of, stop_code_of}
use Rattle.format.specs.Parity.{parity_bit_of, parity_bits}
use Rattle.format.specs.Stop.{stop_length_of, stop_bits_of}
use Rattle.frame.specs.declared.levels.FrameBits.{FrameBits}
use Rattle.frame.specs.Levels.{before_stop, bits_before_stop_of, frame_length_of, frame_bits_of, level_of}

-- 8 data bits and an even parity bit, which of 0 is low: this register is high there
no_parity_always_high : ((x : ℕ) → x < 256 → 65024 + 2 * x ≡ (frame_bits_of (format_of 3) x).0) → ⊥
unfolding frame_bits_of before_stop parity_bits parity_bit_of odd_ones format_of bits_of value_of pick
no_parity_always_high h = omega (arith, h 0 (omega arith))

-- the lowest bit of a register of zeros is low
no_levels_inverted : ((r : FrameBits) (i : Bits) → i.0 < 16 → eqb (r.0 / 2 ^ i.0 % 2) 0 ≡ level_of r i) → ⊥
unfolding level_of pick
no_levels_inverted h = true≢false (h (record { 0 = 0 }) (record { 0 = 0 }) (omega arith))

-- the line is high past the frame
no_low_past_register : ((r : FrameBits) → false ≡ level_of r (record { 0 = 16 })) → ⊥
unfolding level_of pick
no_low_past_register h = false≢true (h (record { 0 = 0 }))

-- "parity if any"
no_parity_not_counted : ((mr1 : ℕ) → (format_of mr1).width.0 + 1 ≡ (bits_before_stop_of (format_of mr1)).0) → ⊥
unfolding bits_before_stop_of format_of pick
no_parity_not_counted h = omega (arith, h 3)

-- "frame length is the format's sum": these take the stop code to be 0
no_stop_code_ignored : ((mr1 mr2 : ℕ)
    → (frame_length_of true (format_of mr1) 0).0 ≡ (frame_length_of true (format_of mr1) (stop_code_of mr2)).0) → ⊥
unfolding frame_length_of bits_before_stop_of stop_length_of format_of pick
no_stop_code_ignored h = omega (arith, h 19 7)

no_one_stop_bit_at1x : ((mr1 mr2 : ℕ)
    → (frame_length_of false (format_of mr1) 0).0 ≡ (frame_length_of false (format_of mr1) (stop_code_of mr2)).0) → ⊥
unfolding frame_length_of bits_before_stop_of stop_bits_of format_of pick
no_one_stop_bit_at1x h = omega (arith, h 19 15)
