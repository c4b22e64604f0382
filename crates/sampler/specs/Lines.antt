-- Demand 3: "the characters that the line, the clock pulses, the format and the enable alone put together". What
-- reaches a sampler, and what the sampler, run alone over it, puts together. There is no queue here, and nothing that a
-- program reads. Assumes nothing.
use Rattle.std.specs.Prelude.{Bool, true, false, List, [], ◌∷◌, ◌++◌, option_to_list}
use Rattle.format.specs.declared.format.Format.{Format}
use Rattle.character.specs.declared.character.Character.{Character}
use Rattle.sampler_state.specs.declared.state.Sampler.{Sampler}
use Rattle.feed.specs.declared.feed.Setting.{Setting}
use Rattle.sampler_state.specs.State.{hunting}
use Rattle.sampler_hunting.specs.declared.hunting.Sampled.{Sampled}
use Rattle.sampler_hunting.specs.Hunting.{still}
use Rattle.sampler.specs.Sampler.{sample_of}

-- a format with 16X pulses
abbrev pub at16 : Format → Setting
at16 f = record { format = f; sixteen = true }

-- A pulse of an enabled receiver's clock, with the level of the line and the format and 16X or 1X as they stand; a
-- receiver that was disabled is enabled, or its channel's mode changes; it is disabled.
pub data Line : Type 0 where
  pulse : Bool → Setting → Line
  enable disable : Line

-- "A receiver just enabled must sample a high before a low counts"; "Disable drops the character being put together and
-- ends the wait for a break's end, no more."
unfoldable pub hears : Sampler → Line → Sampled
hears s (pulse level f) = sample_of s level f
hears s enable = still (hunting false)
hears s disable = still (hunting false)

-- the sampler after some lines
unfoldable pub after_lines : Sampler → List Line → Sampler
after_lines s [] = s
after_lines s (x ∷ xs) = after_lines (hears s x).next xs

-- the characters that it puts together, in order
unfoldable pub arrivals : Sampler → List Line → List Character
arrivals s [] = []
arrivals s (x ∷ xs) = option_to_list (hears s x).came ++ arrivals (hears s x).next xs
