-- When a start is confirmed and when break change is set, by the pulses that are looked at. "A confirmed start while
-- one waits removes the waiting one and sets overrun." is the rule by which demand 3's ledger loses a character. One
-- statement for both, over what is told of each line: at the pulse that confirms a start, at the stop's sample of a
-- break and at the high that ends it, and of no other line anything. Assumes nothing.
use Rattle.std.specs.Prelude.{◌+◌, ◌-◌, ◌*◌, ◌≤◌, ◌<◌, ◌≡◌, Bool, true, false, List, [], ◌∷◌, ◌++◌, length, replicate}
use Rattle.format.specs.Pick.{pick}
use Rattle.feed.specs.declared.feed.Setting.{Setting}
use Rattle.sampler_state.specs.declared.state.Sampler.{Sampler}
use Rattle.sampler_hunting.specs.declared.hunting.Sampled.{Sampled}
use Rattle.sampler.specs.Lines.{Line}
use Rattle.sampler.specs.Lines.Line.{pulse, enable, disable}
use Rattle.sampler_laws.specs.Sampling.{Found, lines, level_at, before_stop, all_at, Flags, told_from}
use Rattle.sampler_laws.specs.Breaks.{Broken, Stopped, Unstopped, Run, runs, few, all_few, Ends}

-- Of a whole character, from the low at p to its first stop sample. "at p+8 it must still be low, .. Then one sample
-- each 16 pulses": `start` is told at p+8, `stop` at the stop's sample. "At 1X each pulse is a sample", and a start is
-- "confirmed at once".
abbrev pub told_of : Bool → Bool → Setting → List Bool
told_of start stop f =
    pick f.sixteen
    (replicate 8 false ++ start ∷ replicate (15 + 16 * before_stop f.format) false ++ stop ∷ [])
    (start ∷ replicate (before_stop f.format) false ++ stop ∷ [])

-- `start` is told of a confirmed start, `change` of a break's stop and its end; of what is heard after a high, and of
-- what is heard by one that was just enabled
pub record Tells (start change : Bool) (idle enabled : Flags) : Type 0 where
  -- "it is idle while it hunts and its last sample was high"
  pub end : idle [] ≡ []
  pub high : (f : Setting) (rest : Found) → idle (pulse true f ∷ lines rest) ≡ false ∷ idle (lines rest)
  -- "At 16X: after a high, a low at pulse p": nothing before p+8
  pub early : (f : Setting) (ls : Found) → f.sixteen ≡ true → length ls ≤ 7
      → idle (pulse false f ∷ lines ls) ≡ false ∷ replicate (length ls) false
  -- "at p+8 it must still be low, else hunt again"
  pub none : (f : Setting) (ls rest : Found) → f.sixteen ≡ true → level_at ls 7 ≡ true → length ls ≡ 8
      → idle (pulse false f ∷ lines ls ++ lines rest) ≡ replicate 9 false ++ idle (lines rest)
  -- low at p+8: there, and at no other pulse before the stop's
  pub sixteen : (f : Setting) (ls : Found) → f.sixteen ≡ true → f.format.width.0 ≤ 8 → level_at ls 7 ≡ false
      → 8 ≤ length ls → length ls < 24 + 16 * before_stop f.format
      → idle (pulse false f ∷ lines ls) ≡ replicate 8 false ++ start ∷ replicate (length ls - 8) false
  -- "At 1X .. the next low is a start, confirmed at once": at p, and at no other pulse before the stop's
  pub one : (f : Setting) (ls : Found) → f.sixteen ≡ false → f.format.width.0 ≤ 8
      → length ls < before_stop f.format + 1
      → idle (pulse false f ∷ lines ls) ≡ start ∷ replicate (length ls) false
  -- nor at the stop's, if it is no break's
  pub stopped : (f : Setting) (ls rest : Found) → Stopped f ls
      → idle (pulse false f ∷ lines ls ++ lines rest) ≡ told_of start false f ++ idle (lines rest)
  -- "Low stop: framing mark; if low at the 8 next pulses, the last of them counts as a new low at p.": not before it,
  -- and there by its own p+8, or at once at 1X
  pub fewer : (f : Setting) (ls lows : Found) → Unstopped f ls → all_at false lows ≡ true → length lows ≤ 7
      → idle (pulse false f ∷ lines ls ++ lines lows) ≡ told_of start false f ++ replicate (length lows) false
  pub again : (f g : Setting) (ls lows rest : Found) → Unstopped f ls → all_at false lows ≡ true → length lows ≡ 7
      → idle (pulse false f ∷ lines ls ++ (lines lows ++ pulse false g ∷ lines rest))
      ≡ told_of start false f ++ (replicate 7 false ++ idle (pulse false g ∷ lines rest))
  -- ".. until a high"
  pub until : (f g : Setting) (ls lows rest : Found) → Unstopped f ls → all_at false lows ≡ true → length lows ≤ 7
      → idle (pulse false f ∷ lines ls ++ (lines lows ++ pulse true g ∷ lines rest))
      ≡ told_of start false f ++ (replicate (length lows + 1) false ++ idle (lines rest))
  -- "All bits, parity and stop low: .. break change set; hunting waits for 8 high pulses in a row": nothing while it
  -- waits, at lows, at highs, or where a low interrupts a run of them
  pub lasts : (f : Setting) (ls : Found) (rs : List Run) (highs : Found) → Broken f ls → all_few rs ≡ true
      → few highs ≡ true
      → idle (pulse false f ∷ lines ls ++ (lines (runs rs) ++ lines highs))
      ≡ told_of start change f ++ replicate (length (runs rs) + length highs) false
  -- "then break change is set again"; at 1X "one high ends a break"
  pub ends : (f g : Setting) (ls : Found) (rs : List Run) (highs rest : Found) → Broken f ls → all_few rs ≡ true
      → few highs ≡ true → Ends highs g
      → idle (pulse false f ∷ lines ls ++ (lines (runs rs) ++ (lines highs ++ pulse true g ∷ lines rest)))
      ≡ told_of start change f ++ (replicate (length (runs rs) + length highs) false ++ change ∷ idle (lines rest))
  -- "A receiver just enabled must sample a high before a low counts"
  pub lows : (lows : Found) → all_at false lows ≡ true → enabled (lines lows) ≡ replicate (length lows) false
  pub waits : (g : Setting) (lows rest : Found) → all_at false lows ≡ true
      → enabled (lines lows ++ pulse true g ∷ lines rest) ≡ replicate (length lows + 1) false ++ idle (lines rest)
  -- "Disable drops the character being put together and ends the wait for a break's end, no more."
  pub drops : (xs ys : List Line) → enabled (xs ++ disable ∷ ys) ≡ enabled xs ++ false ∷ enabled ys
  pub enables : (xs ys : List Line) → enabled (xs ++ enable ∷ ys) ≡ enabled xs ++ false ∷ enabled ys

-- which of the lines confirm a start, and which set break change
abbrev pub Confirms : Flags → Flags → Type 0
Confirms idle enabled = Tells true false idle enabled

abbrev pub Changes : Flags → Flags → Type 0
Changes idle enabled = Tells false true idle enabled

-- as a sampler run alone tells it
abbrev pub starts_from : Sampler → List Line → List Bool
starts_from s xs = told_from (λ (x : Sampled). x.started) s xs
