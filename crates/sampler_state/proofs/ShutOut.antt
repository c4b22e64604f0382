-- Wrong answers, each shut out by a definition: a routine that gave it would not meet its contract. Assumes nothing.
use Prim.Native.Nat.{ℕ, ◌<◌}
use mathlib.Core.Path.{◌≡◌}
use mathlib.Core.Bool.{Bool, true, false, true≢false, false≢true}
use native.Mathlib.Omega.{arith}
use Rattle.format.specs.declared.format.Format.{Format}
use Rattle.format.specs.Pick.{pick}
use Rattle.format.specs.Parity.{parity_bit_of}
use Rattle.sampler_state.specs.Assembly.{data_width_of, parity_wrong_of, character_of}
use Rattle.sampler_state.specs.State.{after_stop}

-- 8 data bits, parity forced high
abbrev forced_high : Format
forced_high = record { width = record { 0 = 8 }; parity = 1; odd = true }

-- "A wrong parity bit, forced ones too: parity mark."
no_forced_unchecked : ((v : ℕ) → v < 512 → false ≡ parity_wrong_of forced_high v) → ⊥
unfolding parity_wrong_of parity_bit_of data_width_of pick
no_forced_unchecked h = false≢true (h 0 (omega arith))

-- "Low stop: framing mark"
no_high_stop_framing : ((f : Format) (v : ℕ) (stop : Bool) → stop ≡ (character_of f v stop).marks.framing) → ⊥
unfolding character_of
no_high_stop_framing h = true≢false (h forced_high 0 true)

-- "What follows a low stop goes by that character's 16X or 1X"
no_eight_lows_at1x : 7 ≡ (after_stop false false).left.0 → ⊥
unfolding after_stop pick
no_eight_lows_at1x = omega arith
