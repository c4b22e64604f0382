-- Pulses that find one level, as many at a time as only pass. Assumes nothing.
use Rattle.std.specs.Prelude.{ℕ, ◌-◌, ◌≤◌, ◌<◌, ◌≡◌, Bool, min, None, option_to_list}
use Rattle.format.specs.declared.counts.Pulses.{Pulses}
use Rattle.feed.specs.declared.feed.Setting.{Setting}
use Rattle.sampler_state.specs.declared.state.Sampler.{Sampler}
use Rattle.sampler_hunting.specs.declared.hunting.Sampled.{Sampled}
use Rattle.sampler.specs.Lines.{after_lines, arrivals}
use Rattle.vcd_capture.specs.declared.hops.Hopped.{Hopped}
use Rattle.vcd_capture.specs.Ear.{pulses_at}

abbrev pub one_pulse : Sampled → Hopped
one_pulse x = record { sampler = x.next; came = x.came; pulses = 1 }

abbrev pub staying : Sampler → ℕ → Hopped
staying s n = record { sampler = s; came = None; pulses = n }

-- the pulses before the one that decides, at most so many, and how many are left then
abbrev pub fewer : Pulses → ℕ → ℕ
fewer left most = min most left.0

abbrev pub fewer_left : Pulses → ℕ → Pulses
fewer_left left most = record { 0 = left.0 - most }

-- what is promised: at least one pulse and at most so many, the receiver after them, and what they brought
pub record Hops (s : Sampler) (level : Bool) (f : Setting) (most : ℕ) (r : Hopped) : Type 0 where
  pub some : 0 < r.pulses
  pub few : r.pulses ≤ most
  pub sampler : r.sampler ≡ after_lines s (pulses_at r.pulses level f)
  pub came : option_to_list r.came ≡ arrivals s (pulses_at r.pulses level f)
