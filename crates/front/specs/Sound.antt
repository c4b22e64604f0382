-- The ranges of what the front holds, and "registers holding only values that writes accept". docs/SOUND.md lists the
-- same. ACR, IMR, IVR, the pins' levels and the output bits may be any byte. Assumes nothing.
use Rattle.std.specs.Prelude.{Bool, not, ◌&&◌, leb}
use Rattle.outputs.specs.Outputs.{opcr_not_modelled}
use Rattle.front_side.specs.Sound.{side_in_range}
use Rattle.timer.specs.Sound.{timer_in_range}
use Rattle.front.specs.declared.front.Front.{Front}

-- four change flags
abbrev pub front_in_range : Front → Bool
front_in_range f =
    side_in_range f.a
    && (side_in_range f.b
    && (timer_in_range f.timer && (leb f.inputs.changes 15 && not (opcr_not_modelled f.outputs.opcr))))
