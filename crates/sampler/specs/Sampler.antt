-- The sampler's answer to a pulse: what the line, the clock pulses and the format put together. It never looks at the
-- queue. `true` is a high level. Assumes nothing.
use Rattle.std.specs.Prelude.{ℕ, ◌+◌, ◌-◌, Bool, true, false, eqb, ltb, Some}
use Rattle.format.specs.Pick.{pick}
use Rattle.character.specs.Character.{break_character}
use Rattle.sampler_state.specs.declared.state.Sampler.{Sampler}
use Rattle.feed.specs.declared.feed.Setting.{Setting}
use Rattle.sampler_state.specs.State.{assembling, in_break, gap_of, after_stop}
use Rattle.sampler_state.specs.Assembly.{samples_of, with_sample, character_of}
use Rattle.sampler_hunting.specs.declared.hunting.Sampled.{Sampled}
use Rattle.sampler_hunting.specs.Hunting.{still, hunted, looked_again, followed, waited}

-- "the character arrives at the first stop sample"
abbrev pub arrived : Setting → ℕ → Bool → Sampled
arrived f v stop =
    record {
      next = after_stop f.sixteen stop;
      started = false;
      came = Some (character_of f.format v stop);
      change = false;
    }

-- a break: "hunting waits for 8 high pulses in a row"
abbrev pub broke : Sampled
broke = record { next = in_break 7; started = false; came = Some break_character; change = true }

-- "All bits, parity and stop low: a zero with the break mark alone, break change set"
unfoldable pub finished : Setting → ℕ → Bool → Sampled
finished f v stop = pick stop (arrived f v true) (pick (eqb v 0) broke (arrived f v false))

-- a sample: one bit more, or the stop
unfoldable pub sampled : Sampler → Bool → Sampled
sampled s level =
    pick (ltb s.taken.0 (samples_of s.setting.format).0)
    (still (assembling s.setting (gap_of s.setting.sixteen)
    (record { 0 = s.taken.0 + 1 }) (with_sample s.value s.taken.0 level)))
    (finished s.setting s.value level)

-- "one sample each 16 pulses"
unfoldable pub assembled : Sampler → Bool → Sampled
assembled s level =
    pick (eqb s.left.0 0) (sampled s level)
    (still (assembling s.setting (record { 0 = s.left.0 - 1 }) s.taken s.value))

-- One pulse of the receiver's clock, with the level of the line and the setting as it stands. A phase above 4, which no
-- rule puts there, hunts.
unfoldable pub sample_of : Sampler → Bool → Setting → Sampled
sample_of s level f =
    pick (eqb s.phase 1) (looked_again s level)
    (pick (eqb s.phase 2) (assembled s level)
    (pick (eqb s.phase 3) (followed s level f)
    (pick (eqb s.phase 4) (waited s level f)
    (hunted s level f))))
