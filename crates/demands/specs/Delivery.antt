-- Demand 3: "Take any list of accepted events after a chip reset, and on each channel the characters that the line, the
-- clock pulses, the format and the enable alone put together. Those the program read while the ready bit was set, then
-- those still held, are exactly these characters in order, each once, less those overrun removed by document 01's rule
-- and those a receiver or chip reset dropped. At most four are ever held." The list may hold refused events too: they
-- do nothing (Reached). Order 2: "its characters depend on the mode too; in remote loopback there are none". The ledger
-- is written from the events, the clock pulses (Pulses), in local loopback the transmitter run alone (Sending), and a
-- sampler run alone (crate sampler_laws), and what was read and what is held from the answers. Order 1: "Demand 3 counts
-- fresh reads, the same reads as before": these are by the flag; that they are the same is `Fresh`. Assumes nothing.
use Rattle.std.specs.Prelude.{ℕ, zero, suc, ◌/◌, ◌%◌, ◌≡◌, Bool, false, not, ◌&&◌, ◌||◌, List, [], ◌∷◌, ◌++◌, map, eqb}
use Rattle.std.specs.Prelude.{replicate}
use Rattle.format.specs.Pick.{pick}
use Rattle.format.specs.Format.{format_of}
use Rattle.character.specs.declared.character.Character.{Character}
use Rattle.character.specs.declared.character.Marks.{Marks}
use Rattle.sampler_state.specs.State.{hunting}
use Rattle.sampler.specs.Lines.{Line, hears, arrivals}
use Rattle.sampler.specs.Lines.Line.{pulse, enable, disable}
use Rattle.receiver.specs.Delivery.{Ledger, opened, meets, drop_all, clears, pulse_written, as_arrived, live, known}
use Rattle.receiver.specs.Delivery.{fated_by}
use Rattle.receiver.specs.Delivery.Fate.{WasRead, Held}
use Rattle.clocks.specs.Channel.{is_sixteen}
use Rattle.clocks.specs.Pulses.Side.{receives, transmits}
use Rattle.byte_bits.specs.Bytes.{has_bit}
use Rattle.events.specs.declared.events.Event.{Event}
use Rattle.events.specs.declared.events.Event.TheVariants.{ChipReset, Read, Write, Acknowledge, Pins, Tick}
use Rattle.demands.specs.Chip.{Chip, Channel, of_channel, register_of, and_then, shows, status_bit}
use Rattle.demands.specs.Told.{Programmed, levels_after, commands, programmed, in_local, in_remote, mode_changes}
use Rattle.demands.specs.Clocks.{pulsed_after}
use Rattle.demands.specs.Sending.{sender_after}

-- ---- "the line, the clock pulses, the format and the enable alone" ----

-- a pulse of a clock with this code, and what it finds: a level, and the format and 16X or 1X
abbrev pub heard_at : ℕ → ℕ → Bool → Bool → List Line
heard_at mr1 code pulsed level =
    pick pulsed (pulse level (record { format = format_of mr1; sixteen = is_sixteen code }) ∷ []) []

-- What an enabled receiver hears of its own clock's pulse and of its transmitter's, which puts this level out, with RxD
-- at that one. Order 2: "Demand 3's line is the one the receiver samples": RxD and its own clock, CSR bits 7-4; in
-- local loopback "the transmitter's level and its clock", bits 3-0; "in remote loopback there are none".
abbrev pub heard_by : Programmed → Bool → Bool → Bool → Bool → List Line
heard_by p own sent level rxd =
    pick (not p.receives || in_remote p) []
    (pick (in_local p) (heard_at p.mr1 (p.csr % 16) sent level)
    (heard_at p.mr1 (p.csr / 16) own rxd))

-- in an event: RxD as it stands after it ("6 RxDA, 7 RxDB"), and the level of the transmitter, run alone, after it
abbrev pub pulse_lines : Channel → ℕ → List Event → Event → List Line
pulse_lines ch levels es e =
    heard_by (programmed ch es) (pulsed_after receives ch levels es e) (pulsed_after transmits ch levels es e)
    (sender_after levels ch (and_then es e)).txd
    (has_bit (levels_after levels (and_then es e)) (of_channel ch 6 7))

-- "there every receiver or chip reset is a disable, even where the same command enables again": bits 6-4
abbrev pub reset_lines : ℕ → List Line
reset_lines effect = pick (eqb effect 2) (disable ∷ []) []

-- bits 1-0 of a command to a receiver that is enabled or not: "Enabling it again changes nothing."
abbrev pub enabling_lines : Bool → ℕ → List Line
enabling_lines enabled bits = pick (eqb bits 1) (pick enabled [] (enable ∷ [])) (pick (eqb bits 2) (disable ∷ []) [])

abbrev pub command_lines : Bool → ℕ → List Line
command_lines enabled byte =
    reset_lines (byte / 16 % 8) ++ enabling_lines (enabled && not (eqb (byte / 16 % 8) 2)) (byte % 4)

-- what a channel's sampler hears of one event after these: a read, or a command that clears, is nothing to it. Order 2:
-- "A mode change .. leaves an enabled receiver as just enabled"; a disabled one has nothing under way.
unfoldable pub lines_at : Channel → ℕ → List Event → Event → List Line
lines_at ch levels es ChipReset = disable ∷ []
lines_at ch levels es (Read n) = []
lines_at ch levels es (Write n byte) =
    pick (commands ch n byte) (command_lines (programmed ch es).receives byte)
    (pick (mode_changes ch (programmed ch es) n byte) (enable ∷ []) [])
lines_at ch levels es Acknowledge = []
lines_at ch levels es (Pins x) = pulse_lines ch levels es (Pins x)
lines_at ch levels es Tick = pulse_lines ch levels es Tick

-- and of a list of events, after those that came before
unfoldable pub lines_from : Channel → ℕ → List Event → List Event → List Line
lines_from ch levels before [] = []
lines_from ch levels before (e ∷ es) = lines_at ch levels before e ++ lines_from ch levels (and_then before e) es

-- ---- the ledger: each arrival whole as it arrived, whether command 4 cleared its marks, and its fate ----

-- bits 6-4 of an accepted command: "2 reset receiver (..; queue, waiting place and assembly cleared; overrun mark
-- stays)"; "4 clear overrun, .. and the top character's marks"
abbrev pub command_fate : Ledger → ℕ → Ledger
command_fate l effect =
    pick (eqb effect 2) (record { sampler = l.sampler; entries = drop_all l.entries; overran = l.overran })
    (pick (eqb effect 4) (record { sampler = l.sampler; entries = clears l.entries; overran = false })
    l)

-- the fates that an event brings by its register and byte alone: "A read takes the oldest"; a chip reset drops all, and
-- clears every mark
unfoldable pub fate_of : Channel → Ledger → Event → Ledger
fate_of ch l ChipReset = record { sampler = l.sampler; entries = drop_all l.entries; overran = false }
fate_of ch l (Read n) =
    pick (eqb n (register_of ch 3))
    (record { sampler = l.sampler; entries = meets 0 WasRead l.entries; overran = l.overran }) l
fate_of ch l (Write n byte) = pick (commands ch n byte) (command_fate l (byte / 16 % 8)) l
fate_of ch l Acknowledge = l
fate_of ch l (Pins x) = l
fate_of ch l Tick = l

-- what is heard: a confirmed start removes the one that waits, which is the fourth of those held; an arrival is entered
-- last, as held. When a start is confirmed `Confirms` says (crate sampler_laws), and `Leans` that these are its starts.
abbrev pub heard_all : Ledger → List Line → Ledger
heard_all l [] = l
heard_all l (x ∷ xs) = heard_all (pulse_written l (hears l.sampler x)) xs

unfoldable pub ledger_from : Channel → ℕ → Ledger → List Event → List Event → Ledger
ledger_from ch levels l before [] = l
ledger_from ch levels l before (e ∷ es) =
    ledger_from ch levels (heard_all (fate_of ch l e) (lines_at ch levels before e)) (and_then before e) es

abbrev pub ledger : Channel → ℕ → List Event → Ledger
ledger ch levels es = ledger_from ch levels opened [] es

-- ---- what the program read, and what is held, by the answers ----

-- "1 pointer to MR1", and MR1 without block errors: then "SR 7-5 show the oldest's marks". The chip is asked what it
-- would show.
abbrev pub character_errors : Channel → List Event → List Event
character_errors ch es = es ++ Write (register_of ch 2) 16 ∷ Write (register_of ch 0) 19 ∷ []

abbrev pub marks_shown : Chip → ℕ → Channel → List Event → Marks
marks_shown c levels ch es =
    record {
      broken = status_bit c levels ch (character_errors ch es) 7;
      framing = status_bit c levels ch (character_errors ch es) 6;
      parity = status_bit c levels ch (character_errors ch es) 5;
    }

-- "read while the ready bit was set", and order 1: "Demand 3 counts fresh reads": the data byte of an answer that says
-- fresh, under the marks shown just before
abbrev pub read_at : Chip → ℕ → Channel → List Event → List Character
read_at c levels ch es =
    pick (c levels es (Read (register_of ch 3))).fresh
    (record { byte = shows c levels es (register_of ch 3); marks = marks_shown c levels ch es } ∷ []) []

-- an event that reads the channel's buffer
abbrev pub reads_buffer : Channel → Event → Bool
reads_buffer ch ChipReset = false
reads_buffer ch (Read n) = eqb n (register_of ch 3)
reads_buffer ch (Write n byte) = false
reads_buffer ch Acknowledge = false
reads_buffer ch (Pins x) = false
reads_buffer ch Tick = false

unfoldable pub read_from : Chip → ℕ → Channel → List Event → List Event → List Character
read_from c levels ch before [] = []
read_from c levels ch before (e ∷ es) =
    pick (reads_buffer ch e) (read_at c levels ch before) [] ++ read_from c levels ch (and_then before e) es

-- those still held: what so many reads more would give, while they say fresh
unfoldable pub held_for : ℕ → Chip → ℕ → Channel → List Event → List Character
held_for zero c levels ch es = []
held_for (suc k) c levels ch es = read_at c levels ch es ++ held_for k c levels ch (and_then es (Read (register_of ch 3)))

abbrev pub held : Chip → ℕ → Channel → List Event → List Character
held c levels ch es = held_for 4 c levels ch es

-- ---- the statement ----

pub record Delivered (c : Chip) (levels : ℕ) (ch : Channel) (es : List Event) : Type 0 where
  -- the ledger has the characters "that the line, the clock pulses, the format and the enable alone put together", "in
  -- order, each once"
  pub all : map as_arrived (ledger ch levels es).entries ≡ arrivals (hunting false) (lines_from ch levels [] es)
  -- less those removed and dropped they are "Those the program read while the ready bit was set, then those still
  -- held", bytes and marks
  pub fates : map known (live (ledger ch levels es).entries)
      ≡ fated_by WasRead (read_from c levels ch [] es) ++ fated_by Held (held c levels ch es)
  -- "At most four are ever held.": after four reads more the ready bit is clear
  pub four : status_bit c levels ch (es ++ replicate 4 (Read (register_of ch 3))) 0 ≡ false
  -- SR bit 4: "A confirmed start while one waits removes the waiting one and sets overrun."
  pub overrun : status_bit c levels ch es 4 ≡ (ledger ch levels es).overran

abbrev pub Demand3 : Chip → Type 0
Demand3 c = (levels : ℕ) (ch : Channel) (es : List Event) → Delivered c levels ch es
