-- Demand 3 for one receiver: what is owed of any list of feeds after a chip reset. The ledger is written from the feeds
-- and from the sampler run alone; no queue is in sight. What a receiver owes is then said of any way `step` to take a
-- feed and any way `show` to tell its status, so that it can be proved of one and proved false of others. The front
-- feeds a pulse to an enabled receiver only, and `Enables` to one that was off or at a mode change; the statement asks
-- no such thing of the list. Assumes nothing.
use Rattle.std.specs.Prelude.{ℕ, zero, suc, ◌≤◌, ◌≡◌, Bool, true, false, ◌||◌, List, [], ◌∷◌, ◌++◌, map, ltb, take, Option, None, Some}
use Rattle.format.specs.Pick.{pick}
use Rattle.character.specs.declared.character.Character.{Character}
use Rattle.character.specs.declared.character.Marks.{Marks}
use Rattle.character.specs.Character.{no_marks, unmarked_of}
use Rattle.sampler_state.specs.declared.state.Sampler.{Sampler}
use Rattle.sampler_state.specs.State.{hunting}
use Rattle.sampler_hunting.specs.declared.hunting.Sampled.{Sampled}
use Rattle.sampler.specs.Lines.{Line, hears, arrivals}
use Rattle.sampler.specs.Lines.Line.{pulse, enable, disable}
use Rattle.queue.specs.Queue.{held_of}
use Rattle.receiver_state.specs.declared.arrivals.Receiver.{Receiver}
use Rattle.feed.specs.declared.feed.Effect.{Effect}
use Rattle.feed.specs.declared.feed.Effect.TheVariants.{NoEffect, Reset, ClearErrors, ClearBreakChange}
use Rattle.feed.specs.declared.feed.Enabling.{Enabling}
use Rattle.feed.specs.declared.feed.Enabling.TheVariants.{Stays, Enables, Disables}
use Rattle.receiver_status.specs.declared.status.Status.{Status}
use Rattle.receiver.specs.declared.receiver.Fed.{Fed}
use Rattle.feed.specs.declared.feed.Feed.{Feed}
use Rattle.feed.specs.declared.feed.Feed.TheVariants.{Nothing, Pulse, Command, Read, ChipReset}

-- ---- what a sampler sees of a feed ----

-- "there every receiver or chip reset is a disable, even where the same command enables again"
abbrev pub effect_lines : Effect → List Line
effect_lines NoEffect = []
effect_lines Reset = disable ∷ []
effect_lines ClearErrors = []
effect_lines ClearBreakChange = []

-- "the line, the clock pulses, the format and the enable alone" (demand 3)
abbrev pub enabling_lines : Enabling → List Line
enabling_lines Stays = []
enabling_lines Enables = enable ∷ []
enabling_lines Disables = disable ∷ []

-- "bits 6-4 first, then .. 1-0 (receiver)": a read, or a command that clears, is nothing to a sampler
abbrev pub lines_of : Feed → List Line
lines_of Nothing = []
lines_of (Pulse level f) = pulse level f ∷ []
lines_of (Command e t) = effect_lines e ++ enabling_lines t
lines_of Read = []
lines_of ChipReset = disable ∷ []

unfoldable pub lines_over : List Feed → List Line
lines_over [] = []
lines_over (e ∷ es) = lines_of e ++ lines_over es

-- ---- the ledger ----

-- what became of an arrival
pub data Fate : Type 0 where
  Held WasRead Overrun Dropped : Fate

-- an arrival whole as it arrived, whether command 4 cleared its marks, and its fate
pub data Entry : Type 0 where
  entry : Character → Bool → Fate → Entry

-- the n-th of those held, counted from 0, meets a fate
abbrev pub meets : ℕ → Fate → List Entry → List Entry
meets n f [] = []
meets zero f (entry c k Held ∷ l) = entry c k f ∷ l
meets (suc n) f (entry c k Held ∷ l) = entry c k Held ∷ meets n f l
meets n f (entry c k WasRead ∷ l) = entry c k WasRead ∷ meets n f l
meets n f (entry c k Overrun ∷ l) = entry c k Overrun ∷ meets n f l
meets n f (entry c k Dropped ∷ l) = entry c k Dropped ∷ meets n f l

-- demand 3: "those a receiver or chip reset dropped", which are all that are held
abbrev pub drop_all : List Entry → List Entry
drop_all [] = []
drop_all (entry c k Held ∷ l) = entry c k Dropped ∷ drop_all l
drop_all (entry c k WasRead ∷ l) = entry c k WasRead ∷ drop_all l
drop_all (entry c k Overrun ∷ l) = entry c k Overrun ∷ drop_all l
drop_all (entry c k Dropped ∷ l) = entry c k Dropped ∷ drop_all l

-- command 4: "clear .. the top character's marks"
abbrev pub clears : List Entry → List Entry
clears [] = []
clears (entry c k Held ∷ l) = entry c true Held ∷ l
clears (entry c k WasRead ∷ l) = entry c k WasRead ∷ clears l
clears (entry c k Overrun ∷ l) = entry c k Overrun ∷ clears l
clears (entry c k Dropped ∷ l) = entry c k Dropped ∷ clears l

-- "A confirmed start while one waits removes the waiting one": the fourth of those held. When a start is confirmed
-- `Confirms` says (crate sampler_laws), of what a sampler run alone tells.
abbrev pub starts : Bool → List Entry → List Entry
starts true l = meets 3 Overrun l
starts false l = l

-- an arrival is entered last, as held
abbrev pub enters : Option Character → List Entry → List Entry
enters None l = l
enters (Some c) l = l ++ (entry c false Held ∷ [])

abbrev pub overruns : List Entry → ℕ
overruns [] = 0
overruns (entry c k Held ∷ l) = overruns l
overruns (entry c k WasRead ∷ l) = overruns l
overruns (entry c k Overrun ∷ l) = suc (overruns l)
overruns (entry c k Dropped ∷ l) = overruns l

-- The sampler run alone, the arrivals with their fates, and whether a fate Overrun came since the last command 4 or
-- chip reset.
pub record Ledger : Type 0 where
  pub sampler : Sampler
  pub entries : List Entry
  pub overran : Bool

-- after a chip reset
abbrev pub opened : Ledger
opened = record { sampler = hunting false; entries = []; overran = false }

-- a pulse: the confirmed start, then the arrival
abbrev pub pulse_written : Ledger → Sampled → Ledger
pulse_written l m =
    let es : List Entry = enters m.came (starts m.started l.entries) in
    record { sampler = m.next; entries = es; overran = l.overran || ltb (overruns l.entries) (overruns es) }

-- "2 reset receiver (disabled; queue, waiting place and assembly cleared; overrun mark stays)"; "4 clear overrun, block
-- sums and the top character's marks"
abbrev pub effect_written : Ledger → Effect → Ledger
effect_written l NoEffect = l
effect_written l Reset =
    record { sampler = (hears l.sampler disable).next; entries = drop_all l.entries; overran = l.overran }
effect_written l ClearErrors = record { sampler = l.sampler; entries = clears l.entries; overran = false }
effect_written l ClearBreakChange = l

-- "Disable drops the character being put together and ends the wait for a break's end, no more."
abbrev pub enabling_written : Ledger → Enabling → Ledger
enabling_written l Stays = l
enabling_written l Enables =
    record { sampler = (hears l.sampler enable).next; entries = l.entries; overran = l.overran }
enabling_written l Disables =
    record { sampler = (hears l.sampler disable).next; entries = l.entries; overran = l.overran }

-- "A read takes the oldest"; a chip reset drops all, and clears every mark
unfoldable pub written : Ledger → Feed → Ledger
written l Nothing = l
written l (Pulse level f) = pulse_written l (hears l.sampler (pulse level f))
written l (Command e t) = enabling_written (effect_written l e) t
written l Read = record { sampler = l.sampler; entries = meets 0 WasRead l.entries; overran = l.overran }
written l ChipReset =
    record { sampler = (hears l.sampler disable).next; entries = drop_all l.entries; overran = false }

unfoldable pub ledger_from : Ledger → List Feed → Ledger
ledger_from l [] = l
ledger_from l (e ∷ es) = ledger_from (written l e) es

abbrev pub ledger : List Feed → Ledger
ledger es = ledger_from opened es

-- demand 3: "less those overrun removed by document 01's rule and those a receiver or chip reset dropped"
abbrev pub live : List Entry → List Entry
live [] = []
live (entry c k Held ∷ l) = entry c k Held ∷ live l
live (entry c k WasRead ∷ l) = entry c k WasRead ∷ live l
live (entry c k Overrun ∷ l) = live l
live (entry c k Dropped ∷ l) = live l

-- an entry's character as it arrived
abbrev pub as_arrived : Entry → Character
as_arrived (entry c k f) = c

-- and with its marks less cleared ones
abbrev pub less_cleared : Bool → Character → Character
less_cleared true c = unmarked_of c
less_cleared false c = c

-- what became of a character that was not lost
abbrev pub known : Entry → Character × Fate
known (entry c k f) = (less_cleared k c, f)

-- the marks of the oldest that is held, 0 if none
abbrev pub oldest_known : List Entry → Marks
oldest_known [] = no_marks
oldest_known (entry c k Held ∷ l) = (less_cleared k c).marks
oldest_known (entry c k WasRead ∷ l) = oldest_known l
oldest_known (entry c k Overrun ∷ l) = oldest_known l
oldest_known (entry c k Dropped ∷ l) = oldest_known l

-- ---- a receiver that takes feeds ----

-- any way to take a feed, and any way to show a status: in block mode, or not
abbrev pub Step : Type 0
Step = Receiver → Feed → Fed

abbrev pub Show : Type 0
Show = Receiver → Bool → Status

unfoldable pub after : Step → Receiver → List Feed → Receiver
after step r [] = r
after step r (e ∷ es) = after step (step r e).receiver es

-- demand 3: "the program read while the ready bit was set", as order 1 counts it: "Demand 3 counts fresh reads": the byte
-- that a read answers which says fresh, under the marks that SR shows before it in character mode
unfoldable pub given : Step → Show → Receiver → Feed → List Character
given step show r Nothing = []
given step show r (Pulse level f) = []
given step show r (Command e t) = []
given step show r Read =
    pick (step r Read).fresh (record { byte = (step r Read).byte; marks = (show r false).marks } ∷ []) []
given step show r ChipReset = []

unfoldable pub reads : Step → Show → Receiver → List Feed → List Character
reads step show r [] = []
reads step show r (e ∷ es) = given step show r e ++ reads step show (step r e).receiver es

abbrev pub fated_by : Fate → List Character → List (Character × Fate)
fated_by f [] = []
fated_by f (c ∷ cs) = (c, f) ∷ fated_by f cs

-- What is owed of a list of feeds, from any receiver after a chip reset; the quotes of the first three fields are
-- demand 3's. The first field is the ledger's own: no receiver is in it.
pub record Delivery (step : Step) (show : Show) (r : Receiver) (es : List Feed) : Type 0 where
  -- the ledger has "exactly these characters in order, each once", whole as they arrived
  pub all : map as_arrived (ledger es).entries ≡ arrivals (hunting false) (lines_over es)
  -- less those removed and dropped, they are "Those the program read while the ready bit was set, then those still
  -- held"
  pub fates : map known (live (ledger es).entries)
      ≡ fated_by WasRead (reads step show (step r ChipReset).receiver es)
      ++ fated_by Held (held_of (after step (step r ChipReset).receiver es).queue)
  -- order 1: "the same reads as before": a read says fresh exactly where the ready bit was set before it
  pub same : (k : ℕ)
      → (step (after step (step r ChipReset).receiver (take k es)) Read).fresh
      ≡ (show (after step (step r ChipReset).receiver (take k es)) false).ready
  -- "At most four are ever held.": after any number of the feeds
  pub four : (k : ℕ) → (after step (step r ChipReset).receiver (take k es)).queue.count ≤ 4
  -- SR bit 4 is set exactly when a fate Overrun came since the last command 4 or chip reset
  pub overrun : (block : Bool) → (show (after step (step r ChipReset).receiver es) block).overrun ≡ (ledger es).overran
  -- "Character errors: SR 7-5 show the oldest's marks, 0 if none.", less cleared ones
  pub marks : (show (after step (step r ChipReset).receiver es) false).marks ≡ oldest_known (ledger es).entries

-- a receiver that delivers
abbrev pub Delivers : Step → Show → Type 0
Delivers step show = (r : Receiver) (es : List Feed) → Delivery step show r es
