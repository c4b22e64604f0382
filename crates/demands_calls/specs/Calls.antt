-- Order 5: "one call over a lent list of event records, .. equal to the same events one by one"; "Demand 3 reads the
-- accepted events in both". A program calls for single events, for polls and for runs, in any order after a chip reset:
-- the states, and the bytes of its fresh reads, are those of the list of single events that its calls stand for, and of
-- that list demand 3 speaks. Assumes nothing.
use Rattle.std.specs.Prelude.{ℕ, ◌≡◌, Bool, ◌&&◌, List, [], ◌∷◌, ◌++◌, map, take, replicate}
use Rattle.format.specs.Pick.{pick}
use Rattle.character.specs.declared.character.Character.{Character}
use Rattle.events.specs.declared.events.Event.{Event}
use Rattle.events.specs.declared.events.Event.TheVariants.{Tick}
use Rattle.chip_device.specs.declared.device.Device.{Device}
use Rattle.chip_laws.specs.Table.{Step}
use Rattle.chip_laws.specs.Sound.{after}
use Rattle.chip_laws.specs.Reset.{reset_at}
use Rattle.chip_ticks.specs.declared.until_irq.Ran.{Ran}
use Rattle.records.specs.declared.records.EventRecord.{EventRecord}
use Rattle.records.specs.declared.records.Seen.{Seen}
use Rattle.records.specs.Records.{event_of}
use Rattle.poll.specs.declared.polling.Polled.{Polled}
use Rattle.demands.specs.Chip.{Channel, chip_of}
use Rattle.demands.specs.Delivery.{reads_buffer, read_from, Delivered}

-- a poll has its events and the space for their answers, a run its budget
pub data Call : Type 0 where
  one : Event → Call
  polls : List EventRecord → List Seen → Call
  runs : ℕ → Call

-- how a board answers each: an event; a poll, and what its space then holds; a run
pub record Board : Type 0 where
  pub step : Step
  pub poll : Device → List EventRecord → List Seen → Polled
  pub written : Device → List EventRecord → List Seen → List Seen
  pub run : Device → ℕ → Ran

module _ (b : Board) where
  abbrev pub called : Device → Call → Device
  called d (one e) = (b.step d e).state
  called d (polls es xs) = (b.poll d es xs).state
  called d (runs budget) = (b.run d budget).state

  -- the single events that a call stands for: as many of the list as the count says, as many ticks as it took
  abbrev pub stands_for : Device → Call → List Event
  stands_for d (one e) = e ∷ []
  stands_for d (polls es xs) = map event_of (take (b.poll d es xs).count es)
  stands_for d (runs budget) = replicate (b.run d budget).ticks Tick

-- the byte of an answer that says fresh, to a read of the channel's buffer
abbrev pub fresh_byte : Channel → Event → Bool → ℕ → List ℕ
fresh_byte ch e fresh byte = pick (reads_buffer ch e && fresh) (byte ∷ []) []

abbrev pub fresh_bytes : Channel → List EventRecord → List Seen → List ℕ
fresh_bytes ch [] xs = []
fresh_bytes ch (e ∷ es) [] = []
fresh_bytes ch (e ∷ es) (x ∷ xs) = fresh_byte ch (event_of e) x.fresh x.«data» ++ fresh_bytes ch es xs

module _ (b : Board) where
  -- what a call's own answers show
  abbrev pub bytes_of : Channel → Device → Call → List ℕ
  bytes_of ch d (one e) = fresh_byte ch e (b.step d e).fresh (b.step d e).byte
  bytes_of ch d (polls es xs) =
      fresh_bytes ch (take (b.poll d es xs).count es) (take (b.poll d es xs).count (b.written d es xs))
  bytes_of ch d (runs budget) = []

  -- ---- a list of calls ----

  unfoldable pub after_calls : Device → List Call → Device
  after_calls d [] = d
  after_calls d (c ∷ cs) = after_calls (called b d c) cs

  unfoldable pub events_of : Device → List Call → List Event
  events_of d [] = []
  events_of d (c ∷ cs) = stands_for b d c ++ events_of (called b d c) cs

  unfoldable pub bytes_read : Channel → Device → List Call → List ℕ
  bytes_read ch d [] = []
  bytes_read ch d (c ∷ cs) = bytes_of ch d c ++ bytes_read ch (called b d c) cs

pub record Calls (b : Board) : Type 0 where
  -- "equal to the same events one by one"; "state and lines equal the single ticks"
  pub states : (levels : ℕ) (cs : List Call)
      → after_calls b (reset_at levels) cs ≡ after b.step (reset_at levels) (events_of b (reset_at levels) cs)
  -- what was read by the calls is what demand 3 counts as read
  pub reads : (levels : ℕ) (ch : Channel) (cs : List Call)
      → bytes_read b ch (reset_at levels) cs
      ≡ map (λ (x : Character). x.byte) (read_from (chip_of b.step) levels ch [] (events_of b (reset_at levels) cs))
  -- "Demand 3 reads the accepted events in both"
  pub delivers : (levels : ℕ) (ch : Channel) (cs : List Call)
      → Delivered (chip_of b.step) levels ch (events_of b (reset_at levels) cs)
