-- Demand 2: ".. received characters follow the Motorola manuals as document 01 fixes them.": what a program sees of a
-- receiver beside the characters themselves, over any list of events after a chip reset. Assumes nothing.
use Rattle.std.specs.Prelude.{ℕ, suc, ◌/◌, ◌%◌, ◌≡◌, Bool, true, false, ◌&&◌, ◌||◌, List, [], ◌∷◌, ◌++◌, eqb, leb}
use Rattle.std.specs.Prelude.{length}
use Rattle.format.specs.Pick.{pick}
use Rattle.character.specs.declared.character.Marks.{Marks}
use Rattle.character.specs.Character.{no_marks, or_marks}
use Rattle.sampler_state.specs.declared.state.Sampler.{Sampler}
use Rattle.sampler.specs.Lines.{Line, hears}
use Rattle.receiver.specs.Delivery.{Entry, oldest_known}
use Rattle.receiver.specs.Delivery.Entry.{entry}
use Rattle.receiver.specs.Delivery.Fate.{Held, WasRead, Overrun, Dropped}
use Rattle.byte_bits.specs.Bytes.{has_bit}
use Rattle.events.specs.declared.events.Event.{Event}
use Rattle.events.specs.declared.events.Event.TheVariants.{ChipReset, Read, Write, Acknowledge, Pins, Tick}
use Rattle.demands.specs.Chip.{Chip, Channel, of_channel, register_of, and_then, shows, status_bit}
use Rattle.demands.specs.Told.{programmed, commands}
use Rattle.demands.specs.Delivery.{lines_at, ledger, reads_buffer, held}

-- SR bits 7-5
abbrev pub status_marks : Chip → ℕ → Channel → List Event → Marks
status_marks c levels ch es =
    record {
      broken = status_bit c levels ch es 7;
      framing = status_bit c levels ch es 6;
      parity = status_bit c levels ch es 5;
    }

-- an accepted command of the channel whose bits 6-4 are these
abbrev pub command_of : Channel → ℕ → Event → Bool
command_of ch effect ChipReset = false
command_of ch effect (Read n) = false
command_of ch effect (Write n byte) = commands ch n byte && eqb (byte / 16 % 8) effect
command_of ch effect Acknowledge = false
command_of ch effect (Pins x) = false
command_of ch effect Tick = false

abbrev pub is_chip_reset : Event → Bool
is_chip_reset ChipReset = true
is_chip_reset (Read n) = false
is_chip_reset (Write n byte) = false
is_chip_reset Acknowledge = false
is_chip_reset (Pins x) = false
is_chip_reset Tick = false

-- ---- the last byte read ----

-- what a read while the ready bit was set answered last, "0 after a chip reset"
unfoldable pub last_from : Chip → ℕ → Channel → ℕ → List Event → List Event → ℕ
last_from c levels ch x before [] = x
last_from c levels ch x before (e ∷ es) =
    last_from c levels ch
    (pick (is_chip_reset e) 0
    (pick (reads_buffer ch e && status_bit c levels ch before 0) (shows c levels before (register_of ch 3)) x))
    (and_then before e) es

-- ---- block errors ----

-- where the oldest of those held stands in the ledger, counted from 1; 0 if none is held
abbrev pub oldest_at : ℕ → List Entry → ℕ
oldest_at n [] = 0
oldest_at n (entry c k Held ∷ l) = suc n
oldest_at n (entry c k WasRead ∷ l) = oldest_at (suc n) l
oldest_at n (entry c k Overrun ∷ l) = oldest_at (suc n) l
oldest_at n (entry c k Dropped ∷ l) = oldest_at (suc n) l

-- the marks of one that became oldest by an event
abbrev pub became : List Entry → List Entry → Marks
became l m = pick (eqb (oldest_at 0 l) (oldest_at 0 m)) no_marks (oldest_known m)

-- "the marks, each bit ORed, of all that became oldest since command 4 or a chip reset"
unfoldable pub sums_from : Channel → ℕ → Marks → List Event → List Event → Marks
sums_from ch levels sums before [] = sums
sums_from ch levels sums before (e ∷ es) =
    sums_from ch levels
    (pick (is_chip_reset e || command_of ch 4 e) no_marks
    (or_marks sums (became (ledger ch levels before).entries (ledger ch levels (and_then before e)).entries)))
    (and_then before e) es

-- ---- break change ----

-- whether a sampler run alone says so of what it hears: "break change set; .. then break change is set again". Of which
-- lines it does `Changes` says (crate sampler_laws).
abbrev pub changes : Sampler → List Line → Bool
changes s [] = false
changes s (x ∷ xs) = (hears s x).change || changes (hears s x).next xs

-- "5 clear break change"
unfoldable pub change_from : Channel → ℕ → Bool → List Event → List Event → Bool
change_from ch levels x before [] = x
change_from ch levels x before (e ∷ es) =
    change_from ch levels
    (pick (is_chip_reset e || command_of ch 5 e) false
    (x || changes (ledger ch levels before).sampler (lines_at ch levels before e)))
    (and_then before e) es

-- ---- the statement ----

pub record Received (c : Chip) : Type 0 where
  -- "RxRDY: queue not empty. FFULL: three in the queue."
  pub ready : (levels : ℕ) (ch : Channel) (es : List Event)
      → status_bit c levels ch es 0 ≡ leb 1 (length (held c levels ch es))
  pub full : (levels : ℕ) (ch : Channel) (es : List Event)
      → status_bit c levels ch es 1 ≡ leb 3 (length (held c levels ch es))
  -- "reading an empty queue repeats the last byte read (0 after a chip reset) and takes nothing"
  pub repeats : (levels : ℕ) (ch : Channel) (es : List Event) → status_bit c levels ch es 0 ≡ false
      → shows c levels es (register_of ch 3) ≡ last_from c levels ch 0 [] es
  pub nothing : (levels : ℕ) (ch : Channel) (es fs : List Event) (e : Event) → status_bit c levels ch es 0 ≡ false
      → c levels (es ++ Read (register_of ch 3) ∷ fs) e ≡ c levels (es ++ fs) e
  -- "Character errors: SR 7-5 show the oldest's marks, 0 if none."; "MR1: .. 5 block errors"
  pub character : (levels : ℕ) (ch : Channel) (es : List Event) → has_bit (programmed ch es).mr1 5 ≡ false
      → status_marks c levels ch es ≡ oldest_known (ledger ch levels es).entries
  -- "Block: the marks, each bit ORed, of all that became oldest since command 4 or a chip reset."
  pub block : (levels : ℕ) (ch : Channel) (es : List Event) → has_bit (programmed ch es).mr1 5 ≡ true
      → status_marks c levels ch es ≡ sums_from ch levels no_marks [] es
  -- "ISR bits 7-0: .. break change B, .. break change A"
  pub change : (levels : ℕ) (ch : Channel) (es : List Event)
      → has_bit (shows c levels es 5) (of_channel ch 2 6) ≡ change_from ch levels false [] es
