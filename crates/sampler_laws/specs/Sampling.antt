-- Demand 3's arrivals "come from the sampling rule": the rule said by the pulses that are looked at, apart from how a
-- sampler keeps count of them. Level i of a list is the line's at pulse p+1+i. Said of any way to put characters
-- together from what is heard after a high. Assumes nothing.
use Rattle.std.specs.Prelude.{ℕ, zero, suc, ◌+◌, ◌*◌, ◌≤◌, ◌<◌, ◌≡◌, Bool, true, false, not, ◌&&◌, List, [], ◌∷◌, ◌++◌}
use Rattle.std.specs.Prelude.{map, eqb, length, get_or, replicate}
use Rattle.format.specs.Pick.{pick}
use Rattle.format.specs.Digits.{bit, value_of}
use Rattle.format.specs.declared.format.Format.{Format}
use Rattle.format.specs.Parity.{has_parity_of, parity_bit_of}
use Rattle.character.specs.declared.character.Character.{Character}
use Rattle.character.specs.Character.{break_character}
use Rattle.feed.specs.declared.feed.Setting.{Setting}
use Rattle.sampler_state.specs.declared.state.Sampler.{Sampler}
use Rattle.sampler_hunting.specs.declared.hunting.Sampled.{Sampled}
use Rattle.sampler.specs.Lines.{Line, hears}
use Rattle.sampler.specs.Lines.Line.{pulse, enable, disable}

-- a pulse finds a level, and a format and 16X or 1X, which may be others at every pulse: those at p are taken
abbrev pub Found : Type 0
Found = List (Bool × Setting)

abbrev pub lines : Found → List Line
lines [] = []
lines ((level, f) ∷ ls) = pulse level f ∷ lines ls

abbrev pub level_at : Found → ℕ → Bool
level_at ls i = get_or (map (λ (x : Bool × Setting). x.0) ls) i true

-- a way to put characters together
abbrev pub Assembly : Type 0
Assembly = List Line → List Character

-- ---- the character that samples make ----

-- the first n samples
abbrev pub samples : (ℕ → Bool) → ℕ → List Bool
samples s zero = []
samples s (suc n) = s 0 ∷ samples (λ (k : ℕ). s (suc k)) n

-- how many come before the stop's: the data bits, and the parity bit if any
abbrev pub before_stop : Format → ℕ
before_stop f = pick (has_parity_of f) (f.width.0 + 1) f.width.0

-- "data lowest bit first"
abbrev pub byte_at : Format → (ℕ → Bool) → ℕ
byte_at f s = value_of (samples s f.width.0)

-- "A wrong parity bit, forced ones too: parity mark."
abbrev pub parity_wrong : Format → (ℕ → Bool) → Bool
parity_wrong f s = has_parity_of f && not (eqb (bit (s f.width.0)) (bit (parity_bit_of f (byte_at f s))))

-- "Low stop: framing mark"; "All bits, parity and stop low: a zero with the break mark alone"
abbrev pub character_at : Format → (ℕ → Bool) → Character
character_at f s =
    pick (eqb (value_of (samples s (before_stop f + 1))) 0) break_character
    (record {
      byte = byte_at f s;
      marks = record { broken = false; framing = not (s (before_stop f)); parity = parity_wrong f s };
    })

-- ---- the statement ----

-- pulses that all find this level, and 16X pulses
abbrev pub all_at : Bool → Found → Bool
all_at level [] = true
all_at level ((b, f) ∷ ls) = eqb (bit b) (bit level) && all_at level ls

abbrev pub all_sixteen : Found → Bool
all_sixteen [] = true
all_sixteen ((b, f) ∷ ls) = f.sixteen && all_sixteen ls

-- The pulses after a low at p that a 16X character is made of: "at p+8 it must still be low", and "one sample each 16
-- pulses" until the first stop sample, which are p+24, p+40 and so on.
pub record Sixteen (f : Setting) (ls : Found) : Type 0 where
  pub sixteen : f.sixteen ≡ true
  pub width : f.format.width.0 ≤ 8
  pub low : level_at ls 7 ≡ false
  pub end : length ls ≡ 24 + 16 * before_stop f.format

abbrev pub sample_at : Found → ℕ → Bool
sample_at ls k = level_at ls (23 + 16 * k)

abbrev pub stop_at : Setting → Found → Bool
stop_at f ls = sample_at ls (before_stop f.format)

abbrev pub all_low : Setting → Found → Bool
all_low f ls = eqb (value_of (samples (sample_at ls) (before_stop f.format + 1))) 0

pub record Samples (arrive : Assembly) : Type 0 where
  -- nothing comes of a high, or of nothing
  pub high : (f : Setting) (rest : Found) → arrive (pulse true f ∷ lines rest) ≡ arrive (lines rest)
  pub end : arrive [] ≡ []
  -- "At 16X: after a high, a low at pulse p; at p+8 it must still be low, .. Then one sample each 16 pulses; the
  -- character arrives at the first stop sample.": with a high stop, or at the end
  pub sixteen : (f : Setting) (ls rest : Found) → Sixteen f ls → (stop_at f ls ≡ false → rest ≡ [])
      → arrive (pulse false f ∷ lines ls ++ lines rest) ≡ character_at f.format (sample_at ls) ∷ arrive (lines rest)
  -- and not before it
  pub before : (f : Setting) (ls : Found) → f.sixteen ≡ true → f.format.width.0 ≤ 8
      → (8 ≤ length ls → level_at ls 7 ≡ false)
      → length ls < 24 + 16 * before_stop f.format → arrive (pulse false f ∷ lines ls) ≡ []
  -- "else hunt again"
  pub none : (f : Setting) (ls rest : Found) → f.sixteen ≡ true → level_at ls 7 ≡ true → length ls ≡ 8
      → arrive (pulse false f ∷ lines ls ++ lines rest) ≡ arrive (lines rest)
  -- "Low stop: framing mark; if low at the 8 next pulses, the last of them counts as a new low at p."
  pub again : (f g : Setting) (ls lows rest : Found) → Sixteen f ls → stop_at f ls ≡ false → all_low f ls ≡ false
      → all_at false lows ≡ true → length lows ≡ 7
      → arrive (pulse false f ∷ lines ls ++ lines lows ++ pulse false g ∷ lines rest)
      ≡ character_at f.format (sample_at ls) ∷ arrive (pulse false g ∷ lines rest)
  -- ".. until a high"
  pub until : (f g : Setting) (ls lows rest : Found) → Sixteen f ls → stop_at f ls ≡ false → all_low f ls ≡ false
      → all_at false lows ≡ true → length lows ≤ 7
      → arrive (pulse false f ∷ lines ls ++ lines lows ++ pulse true g ∷ lines rest)
      ≡ character_at f.format (sample_at ls) ∷ arrive (lines rest)
  -- "All bits, parity and stop low: a zero with the break mark alone, ..; hunting waits for 8 high pulses in a row"
  pub break : (f : Setting) (ls lows highs rest : Found) → Sixteen f ls → all_low f ls ≡ true → all_at false lows ≡ true
      → all_at true highs ≡ true
      → all_sixteen highs ≡ true → length highs ≡ 8
      → arrive (pulse false f ∷ lines ls ++ lines lows ++ lines highs ++ lines rest)
      ≡ break_character ∷ arrive (lines rest)
  -- fewer do not end it
  pub waits : (f g : Setting) (ls highs rest : Found) → Sixteen f ls → all_low f ls ≡ true → all_at true highs ≡ true
      → all_sixteen highs ≡ true → length highs ≤ 7
      → arrive (pulse false f ∷ lines ls ++ lines highs ++ pulse false g ∷ lines rest)
      ≡ arrive (pulse false f ∷ lines ls ++ lines rest)
  -- "At 1X each pulse is a sample, after any stop the next low is a start, confirmed at once": after a low stop too, if
  -- it is no break
  pub one : (f : Setting) (ls rest : Found) → f.sixteen ≡ false → f.format.width.0 ≤ 8
      → length ls ≡ before_stop f.format + 1
      → (eqb (value_of (samples (level_at ls) (before_stop f.format + 1))) 0 ≡ true → rest ≡ [])
      → arrive (pulse false f ∷ lines ls ++ lines rest) ≡ character_at f.format (level_at ls) ∷ arrive (lines rest)
  -- "one high ends a break": as CSR stands then
  pub one_high : (f g : Setting) (ls rest : Found) → Sixteen f ls → all_low f ls ≡ true → g.sixteen ≡ false
      → arrive (pulse false f ∷ lines ls ++ pulse true g ∷ lines rest) ≡ break_character ∷ arrive (lines rest)
  pub one_break : (f g : Setting) (ls lows rest : Found) → f.sixteen ≡ false → f.format.width.0 ≤ 8
      → length ls ≡ before_stop f.format + 1
      → eqb (value_of (samples (level_at ls) (before_stop f.format + 1))) 0 ≡ true → all_at false lows ≡ true
      → g.sixteen ≡ false
      → arrive (pulse false f ∷ lines ls ++ lines lows ++ pulse true g ∷ lines rest)
      ≡ break_character ∷ arrive (lines rest)
  -- "hunting and a break's end go by CSR as it stands": a 1X break, and 8 highs at 16X
  pub slowly : (f : Setting) (ls lows highs rest : Found) → f.sixteen ≡ false → f.format.width.0 ≤ 8
      → length ls ≡ before_stop f.format + 1
      → eqb (value_of (samples (level_at ls) (before_stop f.format + 1))) 0 ≡ true → all_at false lows ≡ true
      → all_at true highs ≡ true
      → all_sixteen highs ≡ true → length highs ≡ 8
      → arrive (pulse false f ∷ lines ls ++ lines lows ++ lines highs ++ lines rest)
      ≡ break_character ∷ arrive (lines rest)

-- ---- enable and disable ----

-- of what is heard after a high, and of what is heard by one that was just enabled
pub record Enables (idle enabled : Assembly) : Type 0 where
  -- "A receiver just enabled must sample a high before a low counts"
  pub none : (lows : Found) → all_at false lows ≡ true → enabled (lines lows) ≡ []
  pub waits : (g : Setting) (lows rest : Found) → all_at false lows ≡ true
      → enabled (lines lows ++ pulse true g ∷ lines rest) ≡ idle (lines rest)
  -- "Disable drops the character being put together and ends the wait for a break's end, no more."
  pub drops : (xs ys : List Line) → enabled (xs ++ disable ∷ ys) ≡ enabled xs ++ enabled ys
  pub enables : (xs ys : List Line) → enabled (xs ++ enable ∷ ys) ≡ enabled xs ++ enabled ys

-- ---- break change ----

-- which of the lines that are heard after a high set it
abbrev pub Flags : Type 0
Flags = List Line → List Bool

pub record BreakChange (flags : Flags) : Type 0 where
  -- a character that is no break does not
  pub character : (f : Setting) (ls : Found) → Sixteen f ls → all_low f ls ≡ false
      → flags (pulse false f ∷ lines ls) ≡ replicate (1 + length ls) false
  -- "All bits, parity and stop low: .. break change set; hunting waits for 8 high pulses in a row, then break change is
  -- set again."
  pub sixteen : (f g : Setting) (ls lows highs : Found) → Sixteen f ls → all_low f ls ≡ true → all_at false lows ≡ true
      → all_at true highs ≡ true
      → all_sixteen highs ≡ true → length highs ≡ 7 → g.sixteen ≡ true
      → flags (pulse false f ∷ lines ls ++ lines lows ++ lines highs ++ pulse true g ∷ [])
      ≡ replicate (length ls) false ++ true ∷ replicate (length lows + 7) false ++ true ∷ []
  -- "one high ends a break"
  pub one : (f g : Setting) (ls lows : Found) → f.sixteen ≡ false → f.format.width.0 ≤ 8
      → length ls ≡ before_stop f.format + 1
      → eqb (value_of (samples (level_at ls) (before_stop f.format + 1))) 0 ≡ true → all_at false lows ≡ true
      → g.sixteen ≡ false
      → flags (pulse false f ∷ lines ls ++ lines lows ++ pulse true g ∷ [])
      ≡ replicate (length ls) false ++ true ∷ replicate (length lows) false ++ true ∷ []

-- as a sampler run alone tells it
abbrev pub told_from : (Sampled → Bool) → Sampler → List Line → List Bool
told_from q s [] = []
told_from q s (x ∷ xs) = q (hears s x) ∷ told_from q (hears s x).next xs

abbrev pub flags_from : Sampler → List Line → List Bool
flags_from s xs = told_from (λ (x : Sampled). x.change) s xs
