-- The ranges of the sampler's fields, which "hold every value a rule here can put there". docs/SOUND.md lists the same.
-- Assumes nothing.
use Rattle.std.specs.Prelude.{Bool, ◌&&◌, leb}
use Rattle.sampler_state.specs.declared.state.Sampler.{Sampler}
use Rattle.feed.specs.Ranges.{setting_in_range}

-- five phases, at most 15 pulses to pass, at most nine samples taken
abbrev pub sampler_in_range : Sampler → Bool
sampler_in_range s =
    leb s.phase 4
    && (leb s.left.0 15 && (setting_in_range s.setting && (leb s.taken.0 9 && leb s.value 511)))
