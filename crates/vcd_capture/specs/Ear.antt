-- What a receiver hears of a wire. Assumes nothing.
use Rattle.std.specs.Prelude.{ℕ, ◌+◌, ◌-◌, ◌*◌, ◌/◌, ◌≡◌, Bool, true, false, List, [], ◌∷◌, ◌++◌, eqb, replicate}
use Rattle.format.specs.Pick.{pick}
use Rattle.feed.specs.declared.feed.Setting.{Setting}
use Rattle.character.specs.declared.character.Character.{Character}
use Rattle.sampler_state.specs.declared.state.Sampler.{Sampler}
use Rattle.sampler_state.specs.State.{hunting}
use Rattle.sampler.specs.Lines.{after_lines, arrivals}
use Rattle.sampler.specs.Lines as Hearing
use Rattle.text.specs.declared.putting.Page.{Page}
use Rattle.text.specs.Puts.{Writes}
use Rattle.vcd_lines.specs.declared.body.Reading.{Reading}
use Rattle.vcd_lines.specs.declared.body.Said.{Said}
use Rattle.vcd_lines.specs.declared.body.Said.TheVariants.{NoLine, TimeLine, ValueLine}
use Rattle.vcd_lines.specs.Body.{taken_of, said_of}
use Rattle.vcd_capture.specs.declared.ear.Ear.{Ear}
use Rattle.vcd_capture.specs.Logs.{log_bytes}

-- How many ticks stand before a time: tick n does where n x 625,000 / 2,304 is less, and so its whole part is
unfoldable pub ticks_before : ℕ → ℕ
ticks_before t = (t * 2304 - 1) / 625000

-- "phase 0": the first pulse comes a whole period after time 0
unfoldable pub pulses_before : ℕ → ℕ → ℕ
pulses_before period t = pick (eqb period 0) 0 (ticks_before t / period)

-- so many pulses that find one level
abbrev pub pulses_at : ℕ → Bool → Setting → List Hearing.Line
pulses_at n level f = replicate n (Hearing.Line.pulse level f)

-- what the code does with them
pub record Hears (s : Sampler) (level : Bool) (f : Setting) (n : ℕ) (before after : Page) (r : Sampler) : Type 0 where
  pub sampler : r ≡ after_lines s (pulses_at n level f)
  pub writes : Writes (log_bytes (arrivals s (pulses_at n level f))) before after

-- ---- line by line ----

-- the pulses that are still to come before a time: "up to the last time", each finds the level that the wire has
abbrev pub pulses_to : ℕ → ℕ → Ear → ℕ
pulses_to period t e = pulses_before period t - e.done

unfoldable pub ear_until : ℕ → Setting → ℕ → Ear → Ear
ear_until period f t e =
    record {
      sampler = after_lines e.sampler (pulses_at (pulses_to period t e) e.level f);
      level = e.level;
      done = e.done + pulses_to period t e;
    }

unfoldable pub heard_until : ℕ → Setting → ℕ → Ear → List Character
heard_until period f t e = arrivals e.sampler (pulses_at (pulses_to period t e) e.level f)

unfoldable pub ear_value : Ear → ℕ → Bool → ℕ → Ear
ear_value e c v code = record { sampler = e.sampler; level = pick (eqb c code) v e.level; done = e.done }

-- the pulses before a time find the level before it; a value of the wire counts from then on
unfoldable pub ear_said : ℕ → Setting → ℕ → Ear → Said → Ear
ear_said period f code e NoLine = e
ear_said period f code e (TimeLine t) = ear_until period f t e
ear_said period f code e (ValueLine c v) = ear_value e c v code

unfoldable pub heard_said : ℕ → Setting → Ear → Said → List Character
heard_said period f e NoLine = []
heard_said period f e (TimeLine t) = heard_until period f t e
heard_said period f e (ValueLine c v) = []

-- the bytes after the header, and then the pulses up to the end
unfoldable pub heard_from : ℕ → Setting → ℕ → ℕ → Reading → Ear → List ℕ → List Character
heard_from period f code end r e [] = heard_until period f end e
heard_from period f code end r e (b ∷ bs) =
    heard_said period f e (said_of r b)
    ++ heard_from period f code end (taken_of r b true) (ear_said period f code e (said_of r b)) bs

-- "just enabled, phase 0", and "high before their first value"
abbrev pub just_enabled : Ear
just_enabled = record { sampler = hunting false; level = true; done = 0 }

-- what the code does with a line
pub record Moves (e next : Ear) (cs : List Character) (before after : Page) (r : Ear) : Type 0 where
  pub ear : r ≡ next
  pub writes : Writes (log_bytes cs) before after
