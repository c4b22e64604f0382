-- The rest of the sampling rule: how long a break lasts, at 16X, at 1X and over a change of CSR, and lists that end
-- before a 1X stop or among the lows after a low stop. With `Samples` all that can follow a high is told of. Assumes
-- nothing.
use Rattle.std.specs.Prelude.{◌+◌, ◌≤◌, ◌<◌, ◌≡◌, Bool, true, false, ◌&&◌, List, [], ◌∷◌, ◌++◌, eqb, ltb, length}
use Rattle.format.specs.Digits.{value_of}
use Rattle.character.specs.Character.{break_character}
use Rattle.feed.specs.declared.feed.Setting.{Setting}
use Rattle.sampler.specs.Lines.Line.{pulse}
use Rattle.sampler_laws.specs.Sampling.{Found, lines, level_at, samples, before_stop, character_at, all_at}
use Rattle.sampler_laws.specs.Sampling.{Assembly, all_sixteen, Sixteen, sample_at, stop_at, all_low}

-- "At 1X each pulse is a sample": the pulses after a low at p that a 1X character is made of
pub record One (f : Setting) (ls : Found) : Type 0 where
  pub one : f.sixteen ≡ false
  pub width : f.format.width.0 ≤ 8
  pub end : length ls ≡ before_stop f.format + 1

abbrev pub all_low_one : Setting → Found → Bool
all_low_one f ls = eqb (value_of (samples (level_at ls) (before_stop f.format + 1))) 0

-- "All bits, parity and stop low", by the 16X or 1X that is taken at p
pub data Broken (f : Setting) (ls : Found) : Type 0 where
  broken16 : Sixteen f ls → all_low f ls ≡ true → Broken f ls
  broken1 : One f ls → all_low_one f ls ≡ true → Broken f ls

-- what comes next is heard as after a high: a high stop, and at 1X "after any stop the next low is a start"
pub data Stopped (f : Setting) (ls : Found) : Type 0 where
  stopped16 : Sixteen f ls → stop_at f ls ≡ true → Stopped f ls
  stopped1 : One f ls → all_low_one f ls ≡ false → Stopped f ls

-- "Low stop: framing mark": at 16X, and no break
pub record Unstopped (f : Setting) (ls : Found) : Type 0 where
  pub made : Sixteen f ls
  pub low : stop_at f ls ≡ false
  pub some : all_low f ls ≡ false

-- ---- in a break ----

-- highs at 16X, and fewer than the "8 high pulses in a row" that hunting waits for
abbrev pub few : Found → Bool
few highs = all_at true highs && (all_sixteen highs && ltb (length highs) 8)

-- such highs, or none, and then a low
abbrev pub Run : Type 0
Run = Found × Setting

abbrev pub runs : List Run → Found
runs [] = []
runs ((highs, g) ∷ rs) = highs ++ (false, g) ∷ runs rs

abbrev pub all_few : List Run → Bool
all_few [] = true
all_few ((highs, g) ∷ rs) = few highs && all_few rs

-- "hunting and a break's end go by CSR as it stands": a high at 1X ends a break, and at 16X the eighth in a row
abbrev pub Ends : Found → Setting → Type 0
Ends highs g = g.sixteen ≡ true → length highs ≡ 7

pub record Breaks (arrive : Assembly) : Type 0 where
  -- "hunting waits for 8 high pulses in a row": no number of runs that a low interrupts ends it
  pub lasts : (f : Setting) (ls : Found) (rs : List Run) (highs : Found) → Broken f ls → all_few rs ≡ true
      → few highs ≡ true → arrive (pulse false f ∷ lines ls ++ (lines (runs rs) ++ lines highs)) ≡ break_character ∷ []
  -- and then the eighth, or "one high ends a break" at 1X, however many came before it at 16X
  pub ends : (f g : Setting) (ls : Found) (rs : List Run) (highs rest : Found) → Broken f ls → all_few rs ≡ true
      → few highs ≡ true → Ends highs g
      → arrive (pulse false f ∷ lines ls ++ (lines (runs rs) ++ (lines highs ++ pulse true g ∷ lines rest)))
      ≡ break_character ∷ arrive (lines rest)
  -- "the character arrives at the first stop sample", and not before it, at 1X too
  pub before : (f : Setting) (ls : Found) → f.sixteen ≡ false → f.format.width.0 ≤ 8
      → length ls < before_stop f.format + 1 → arrive (pulse false f ∷ lines ls) ≡ []
  -- "if low at the 8 next pulses, the last of them counts as a new low at p": nothing comes of fewer
  pub fewer : (f : Setting) (ls lows : Found) → Unstopped f ls → all_at false lows ≡ true → length lows ≤ 7
      → arrive (pulse false f ∷ lines ls ++ lines lows) ≡ character_at f.format (sample_at ls) ∷ []
