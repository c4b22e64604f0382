-- "registers holding only values that writes accept", and the ranges of what a side holds. docs/SOUND.md lists the
-- same. CSR, the pointer, the enable and the echoed level may be any of their type. Assumes nothing.
use Rattle.std.specs.Prelude.{Bool, not, ◌&&◌}
use Rattle.format.specs.Format.{mr1_not_modelled, mr2_not_modelled}
use Rattle.clocks.specs.Sound.{phases_in_range}
use Rattle.transmitter.specs.Sound.{transmitter_in_range}
use Rattle.front_side.specs.declared.side.Side.{Side}

abbrev pub side_in_range : Side → Bool
side_in_range s =
    not (mr1_not_modelled s.mr1)
    && (not (mr2_not_modelled s.mr2) && (transmitter_in_range s.transmitter && phases_in_range s.phases))
