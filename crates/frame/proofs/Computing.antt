-- One name for what a proof by computing unfolds: what a frame is. It says nothing by itself.
use mathlib.Core.Bool.{Bool, true}
use Rattle.format.specs.Digits.{bits_of, value_of, odd_ones}
use Rattle.format.specs.Format.{format_of}
use Rattle.format.specs.Parity.{parity_bit_of, parity_bits}
use Rattle.format.specs.Pick.{pick}
use Rattle.format.specs.Stop.{stop_length_of, stop_bits_of}
use Rattle.frame.specs.Levels.{before_stop, bits_before_stop_of, spread, levels, frame, frame_length_of, frame_bits_of}
use Rattle.frame.specs.Levels.{level_of}

unfoldable pub computing : Bool
unfolding bits_of value_of odd_ones format_of parity_bit_of parity_bits pick stop_length_of stop_bits_of before_stop
    bits_before_stop_of spread levels frame frame_length_of frame_bits_of level_of
computing = true
