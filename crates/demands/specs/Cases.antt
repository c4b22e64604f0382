-- Document 01's eleven cases, and order 2's: "One table, one statement, checked by the definitions": a row is a set-up,
-- the events, what public answer to look at, and what it must be. Cases 3 to 6 look at what the frame request answers
-- and writes. Assumes nothing.
use Rattle.std.specs.Prelude.{ℕ, zero, suc, ◌+◌, ◌*◌, ◌≡◌, Bool, true, false, ◌&&◌, List, [], ◌∷◌, ◌++◌, eqb, get_or}
use Rattle.std.specs.Prelude.{replicate}
use Rattle.std.specs.Int.Bits.{bit_and}
use Rattle.format.specs.Pick.{pick}
use Rattle.format.specs.Digits.{bit}
use Rattle.format.specs.Format.{format_of}
use Rattle.frame.specs.Levels.{frame}
use Rattle.events.specs.declared.events.Event.{Event}
use Rattle.events.specs.declared.events.Event.TheVariants.{Read, Write, Pins, Tick}
use Rattle.chip_laws.specs.Lists.{Seen}
use Rattle.demands.specs.Chip.{Chip}
use Rattle.demands.specs.Demand1.{Request}

-- ---- what is looked at ----

-- of an answer to an event
pub data Look : Type 0 where
  byte txda txdb op : Look
  -- SR bits 4, 1 and 0, which are the receiver's: overrun, FFULL, RxRDY
  receiver : Look

abbrev pub seen : Look → Seen → ℕ
seen byte x = x.byte
seen txda x = bit x.lines.txda
seen txdb x = bit x.lines.txdb
seen op x = x.lines.op
seen receiver x = bit_and x.byte 19

-- of a frame request: the pulses it answers, how many of the levels it wrote are high, the level in the middle of bit
-- i, and the number that w bits after the start bit make, the lowest first
pub data Asked : Type 0 where
  pulses highs : Asked
  middle value : ℕ → Asked

abbrev pub sum : List ℕ → ℕ
sum [] = 0
sum (x ∷ xs) = x + sum xs

-- bit i lasts from pulse 16i to 16i + 15
abbrev pub middle_of : List ℕ → ℕ → ℕ
middle_of space i = get_or space (16 * i + 8) 0

abbrev pub value_from : ℕ → ℕ → List ℕ → ℕ
value_from zero i space = 0
value_from (suc w) i space = middle_of space i + 2 * value_from w (suc i) space

-- a space of 192 zeros is lent: "at most 192"
abbrev pub lent : List ℕ
lent = replicate 192 0

abbrev pub asked : Asked → Request → ℕ → ℕ → ℕ → ℕ
asked pulses r mr1 mr2 x = (r mr1 mr2 x lent).0.length.0
asked highs r mr1 mr2 x = sum (r mr1 mr2 x lent).1
asked (middle i) r mr1 mr2 x = middle_of (r mr1 mr2 x lent).1 i
asked (value w) r mr1 mr2 x = value_from w 1 (r mr1 mr2 x lent).1

-- ---- rows ----

pub data Row : Type 0 where
  -- the fresh device ("the state after a chip reset with all pins high"), these events, then this one, which is
  -- accepted
  shows : List Event → Event → Look → ℕ → Row
  -- MR1, MR2 and a byte, a request that is accepted
  asks : ℕ → ℕ → ℕ → Asked → ℕ → Row

-- accepted, and as it must be
abbrev pub right : Look → ℕ → Seen → Bool
right look x s = eqb s.number 0 && eqb (seen look s) x

unfoldable pub holds : Chip → Request → Row → Bool
holds c r (shows es e look x) = right look x (c 255 es e)
holds c r (asks mr1 mr2 character look x) =
    eqb (r mr1 mr2 character lent).0.number 0 && eqb (asked look r mr1 mr2 character) x

unfoldable pub all_hold : Chip → Request → List Row → Bool
all_hold c r [] = true
all_hold c r (x ∷ xs) = holds c r x && all_hold c r xs

-- ---- the set-ups ----

-- pulses of receiver A on rising IP4, with RxDA at these levels and every other pin high
unfoldable pub heard : List Bool → List Event
heard [] = []
heard (level ∷ ls) = Pins (pick level 239 175) ∷ Pins (pick level 255 191) ∷ heard ls

-- "Receiver only": MR1 19, MR2 7, CSR code 14 (16X) or 15 (1X), and the receiver enabled; then one high
abbrev pub listening : Bool → List Event
listening sixteen = Write 0 19 ∷ Write 0 7 ∷ Write 1 (pick sixteen 238 255) ∷ Write 2 1 ∷ heard (true ∷ [])

abbrev pub arrives : Bool → ℕ → List Event
arrives sixteen x = heard (frame sixteen (format_of 19) 7 x)

abbrev pub four_arrive : Bool → List Event
four_arrive sixteen =
    listening sixteen ++ arrives sixteen 1 ++ arrives sixteen 2 ++ arrives sixteen 3 ++ arrives sixteen 4

abbrev pub five_arrive : Bool → List Event
five_arrive sixteen = four_arrive sixteen ++ arrives sixteen 5

-- four have arrived at 1X; at 16X then the low at p and so many more
abbrev pub low_for : ℕ → List Event
low_for n = four_arrive false ++ Write 1 238 ∷ heard (replicate n false)

-- Order 2: "Case 7 in local loopback, transmitter enabled": pulses of transmitter A on falling IP3, with RxDA low all the
-- time
unfoldable pub pulsed : ℕ → List Event
pulsed zero = []
pulsed (suc n) = Pins 183 ∷ Pins 191 ∷ pulsed n

-- MR1 19, MR2 7 in local loopback, CSR code 15 (1X) for both, both enabled; then one pulse
abbrev pub looping : List Event
looping = Write 0 19 ∷ Write 0 135 ∷ Write 1 255 ∷ Write 2 5 ∷ pulsed 1

-- sent, and so received: a start, eight bits and a stop
abbrev pub loops : ℕ → List Event
loops x = Write 3 x ∷ pulsed 10

abbrev pub four_loop : List Event
four_loop = looping ++ loops 1 ++ loops 2 ++ loops 3 ++ loops 4

abbrev pub five_loop : List Event
five_loop = four_loop ++ loops 5

-- transmitter A on code 11, MR1 19, MR2 7, and 85 to send: its start comes with tick 24; another is written then
abbrev pub sends : List Event
sends = Write 0 19 ∷ Write 0 7 ∷ Write 1 187 ∷ Write 2 4 ∷ Write 3 85 ∷ replicate 24 Tick ++ Write 3 85 ∷ []

-- TxDA so many ticks after the start
abbrev pub sent : ℕ → ℕ → Row
sent ticks level = shows (sends ++ replicate ticks Tick) (Read 1) txda level

-- "Counter on ticks/16, phase 0, preload 3", and a start; "Timer on ticks, preload 2, start"
abbrev pub counting : List Event
counting = Write 4 48 ∷ Write 6 0 ∷ Write 7 3 ∷ Read 14 ∷ []

abbrev pub timing : List Event
timing = Write 4 96 ∷ Write 6 0 ∷ Write 7 2 ∷ Read 14 ∷ []

-- ---- the table ----

-- "Fresh: SRA 0, IVR 15, OP 255, TxD high."
abbrev pub case1 : List Row
case1 =
    shows [] (Read 1) byte 0 ∷ shows [] (Read 12) byte 15 ∷ shows [] (Read 1) op 255 ∷ shows [] (Read 1) txda 1
    ∷ shows [] (Read 1) txdb 1 ∷ []

-- "Register 0: write 19, 7; read 7; command 16; read 19, 7, 7."
abbrev pub case2 : List Row
case2 =
    let es : List Event = Write 0 19 ∷ Write 0 7 ∷ [] in
    let fs : List Event = es ++ Read 0 ∷ Write 2 16 ∷ [] in
    shows es (Read 0) byte 7 ∷ shows fs (Read 0) byte 19 ∷ shows (fs ++ Read 0 ∷ []) (Read 0) byte 7
    ∷ shows (fs ++ Read 0 ∷ Read 0 ∷ []) (Read 0) byte 7 ∷ []

-- "Stop code 0: 9 (8 bits), 17 (5); 7: 16, 24; 15: 32, 32.": in the frame of 0 without parity only the stop is high
abbrev pub case3 : List Row
case3 =
    asks 19 0 0 highs 9 ∷ asks 16 0 0 highs 17 ∷ asks 19 7 0 highs 16 ∷ asks 16 7 0 highs 24 ∷ asks 19 15 0 highs 32
    ∷ asks 16 15 0 highs 32 ∷ []

-- "85, MR1 19, MR2 7: 0101010101, 160 pulses, 3,840 ticks at code 11.": asked for
abbrev pub case4 : List Row
case4 =
    asks 19 7 85 (middle 0) 0
    ∷ asks 19 7 85 (middle 1) 1
    ∷ asks 19 7 85 (middle 2) 0
    ∷ asks 19 7 85 (middle 3) 1
    ∷ asks 19 7 85 (middle 4) 0
    ∷ asks 19 7 85 (middle 5) 1
    ∷ asks 19 7 85 (middle 6) 0
    ∷ asks 19 7 85 (middle 7) 1
    ∷ asks 19 7 85 (middle 8) 0
    ∷ asks 19 7 85 (middle 9) 1
    ∷ asks 19 7 85 pulses 160
    ∷ []

-- and sent: the first four bits, 384 ticks apart; the next character starts 3,840 ticks after the first. (All its
-- levels: Sending.)
abbrev pub case4sent : List Row
case4sent = sent 192 0 ∷ sent 576 1 ∷ sent 960 0 ∷ sent 1344 1 ∷ sent 3839 1 ∷ sent 3840 0 ∷ []

-- "65, 7 bits: even parity bit 0, odd 1.": after the start bit and seven data bits
abbrev pub case5 : List Row
case5 = asks 2 7 65 (middle 8) 0 ∷ asks 6 7 65 (middle 8) 1 ∷ []

-- "255 with 5 bits: data 31.": the stop follows at once
abbrev pub case6 : List Row
case6 = asks 16 7 255 (value 5) 31 ∷ asks 16 7 255 pulses 120 ∷ []

-- "Receiver only, 1, 2, 3, 4 arrive: SR 3; next start: SR 19; 5 arrives: reads 1, 2, 3, 5.": at 1X, where a low is a
-- start, and at 16X, where the ninth is; eight lows and then a high are none, and take nothing: "at p+8 it must still
-- be low, else hunt again"
abbrev pub case7 : List Row
case7 =
    shows (four_arrive false) (Read 1) byte 3
    ∷ shows (four_arrive false ++ heard (false ∷ [])) (Read 1) byte 19
    ∷ shows (five_arrive false) (Read 3) byte 1
    ∷ shows (five_arrive false ++ Read 3 ∷ []) (Read 3) byte 2
    ∷ shows (five_arrive false ++ Read 3 ∷ Read 3 ∷ []) (Read 3) byte 3
    ∷ shows (five_arrive false ++ Read 3 ∷ Read 3 ∷ Read 3 ∷ []) (Read 3) byte 5
    ∷ shows (four_arrive true) (Read 1) byte 3
    ∷ shows (low_for 8) (Read 1) byte 3
    ∷ shows (low_for 9) (Read 1) byte 19
    ∷ shows (low_for 8 ++ heard (true ∷ [])) (Read 1) byte 3
    ∷ shows (low_for 8 ++ heard (true ∷ []) ++ Read 3 ∷ Read 3 ∷ Read 3 ∷ []) (Read 3) byte 4
    ∷ shows (five_arrive true ++ Read 3 ∷ Read 3 ∷ Read 3 ∷ []) (Read 3) byte 5
    ∷ []

-- order 2: "Case 7 in local loopback, transmitter enabled, gives the same reads and the same SR bits 4, 1 and 0."; at 16X
-- the next start is confirmed on the ninth pulse of its start bit; "TxD stays high"
abbrev pub case7looped : List Row
case7looped =
    shows four_loop (Read 1) receiver 3
    ∷ shows (four_loop ++ Write 3 5 ∷ pulsed 1) (Read 1) receiver 19
    ∷ shows (four_loop ++ Write 3 5 ∷ pulsed 1) (Read 1) txda 1
    ∷ shows five_loop (Read 3) byte 1
    ∷ shows (five_loop ++ Read 3 ∷ []) (Read 3) byte 2
    ∷ shows (five_loop ++ Read 3 ∷ Read 3 ∷ []) (Read 3) byte 3
    ∷ shows (five_loop ++ Read 3 ∷ Read 3 ∷ Read 3 ∷ []) (Read 3) byte 5
    ∷ shows (four_loop ++ Write 1 238 ∷ Write 3 5 ∷ pulsed 8) (Read 1) receiver 3
    ∷ shows (four_loop ++ Write 1 238 ∷ Write 3 5 ∷ pulsed 9) (Read 1) receiver 19
    ∷ []

-- "Four arrive unread, receiver reset: SR 0, read 0."
abbrev pub case8 : List Row
case8 =
    shows (four_arrive false ++ Write 2 32 ∷ []) (Read 1) byte 0
    ∷ shows (four_arrive false ++ Write 2 32 ∷ []) (Read 3) byte 0
    ∷ []

-- "Low 8 pulses, high at p+8: nothing. Low at p+8: a start.": with the line high from then on no character comes, or
-- one does, of ones
abbrev pub case9 : List Row
case9 =
    shows (listening true ++ heard (replicate 8 false ++ replicate 200 true)) (Read 1) byte 0
    ∷ shows (listening true ++ heard (replicate 9 false ++ replicate 200 true)) (Read 1) byte 1
    ∷ shows (listening true ++ heard (replicate 9 false ++ replicate 200 true)) (Read 3) byte 255
    ∷ []

-- "Counter on ticks/16, phase 0, preload 3: ISR bit 3 after 48 ticks, not 47."
abbrev pub case10 : List Row
case10 =
    shows (counting ++ replicate 48 Tick) (Read 5) byte 8 ∷ shows (counting ++ replicate 47 Tick) (Read 5) byte 0 ∷ []

-- "Timer on ticks, preload 2, start: ISR bit 3 after 4 ticks, not 3."
abbrev pub case11 : List Row
case11 = shows (timing ++ replicate 4 Tick) (Read 5) byte 8 ∷ shows (timing ++ replicate 3 Tick) (Read 5) byte 0 ∷ []

-- order 4: "as case 11 but three ticks, clear the bit with stop, then start: the bit is set."; a second start finds the
-- output high, and leaves the bit cleared
abbrev pub case11low : List Row
case11low =
    let low : List Event = timing ++ replicate 3 Tick ++ Read 15 ∷ [] in
    shows low (Read 5) byte 0 ∷ shows (low ++ Read 14 ∷ []) (Read 5) byte 8
    ∷ shows (low ++ Read 14 ∷ Read 15 ∷ Read 14 ∷ []) (Read 5) byte 0 ∷ []

abbrev pub table : List Row
table =
    (case1 ++ case2 ++ case3 ++ case4) ++ case4sent ++ (case5 ++ case6) ++ case7 ++ case7looped
    ++ (case8 ++ case9 ++ case10 ++ case11 ++ case11low)

-- all hold
abbrev pub Cases : Chip → Request → Type 0
Cases c r = all_hold c r table ≡ true
