-- Demand 3's ledger leans on the sampling rule: "those overrun removed by document 01's rule" are removed where a start
-- is confirmed, and of which lines it is `Confirms` says (crate sampler_laws), of what `starts_from` tells of a sampler
-- run alone. Those are the ledger's starts, and no others. So it is of break change, with `Changes` and `flags_from`.
-- Assumes nothing.
use Rattle.std.specs.Prelude.{ℕ, ◌≡◌, Bool, false, ◌||◌, List, [], ◌∷◌, ◌++◌, Option}
use Rattle.character.specs.declared.character.Character.{Character}
use Rattle.sampler_state.specs.declared.state.Sampler.{Sampler}
use Rattle.sampler_state.specs.State.{hunting}
use Rattle.sampler.specs.Lines.{Line, hears, after_lines}
use Rattle.sampler_laws.specs.Sampling.{flags_from}
use Rattle.sampler_laws.specs.Confirms.{starts_from}
use Rattle.receiver.specs.Delivery.{Entry, starts, enters}
use Rattle.events.specs.declared.events.Event.{Event}
use Rattle.demands.specs.Chip.{Channel, and_then}
use Rattle.demands.specs.Delivery.{lines_at, lines_from, fate_of, ledger}
use Rattle.demands.specs.Received.{changes}

-- what arrives of each line
abbrev pub cames_from : Sampler → List Line → List (Option Character)
cames_from s [] = []
cames_from s (x ∷ xs) = (hears s x).came ∷ cames_from (hears s x).next xs

-- entries written by the starts and the arrivals that are told, a line at a time: "A confirmed start while one waits
-- removes the waiting one"
abbrev pub booked : List Bool → List (Option Character) → List Entry → List Entry
booked [] cs l = l
booked (b ∷ bs) [] l = l
booked (b ∷ bs) (c ∷ cs) l = booked bs cs (enters c (starts b l))

-- one of them at least
abbrev pub some : List Bool → Bool
some [] = false
some (b ∷ bs) = b || some bs

-- the sampler alone, after the lines of some events
abbrev pub alone : Channel → ℕ → List Event → Sampler
alone ch levels es = after_lines (hunting false) (lines_from ch levels [] es)

-- of one event more
pub record Leans (ch : Channel) (levels : ℕ) (es : List Event) (e : Event) : Type 0 where
  -- the ledger's sampler is that one
  pub sampler : (ledger ch levels es).sampler ≡ alone ch levels es
  -- the starts of all lines are those of the lines so far, then those that the event's lines bring
  pub starting : starts_from (hunting false) (lines_from ch levels [] (and_then es e))
      ≡ starts_from (hunting false) (lines_from ch levels [] es)
      ++ starts_from (alone ch levels es) (lines_at ch levels es e)
  -- by those, and by what arrives, the entries are written, after what the event's register and byte bring
  pub entered : (ledger ch levels (and_then es e)).entries
      ≡ booked (starts_from (alone ch levels es) (lines_at ch levels es e))
      (cames_from (alone ch levels es) (lines_at ch levels es e)) (fate_of ch (ledger ch levels es) e).entries
  -- and so it is of break change (Received)
  pub changing : changes (ledger ch levels es).sampler (lines_at ch levels es e)
      ≡ some (flags_from (alone ch levels es) (lines_at ch levels es e))
