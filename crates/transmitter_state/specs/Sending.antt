-- A pulse of the transmitter's clock: a start, the next level of a frame, a break, the high after it. `true` is a high
-- level. Assumes nothing.
use Rattle.std.specs.Prelude.{ℕ, ◌+◌, ◌-◌, ◌/◌, ◌%◌, Bool, true, false, not, ◌&&◌, ◌||◌, eqb, ltb}
use Rattle.format.specs.declared.counts.Bits.{Bits}
use Rattle.format.specs.declared.counts.Pulses.{Pulses}
use Rattle.format.specs.Pick.{pick}
use Rattle.format.specs.Format.{format_of, stop_code_of}
use Rattle.frame.specs.Levels.{frame_bits_of, frame_length_of, level_of}
use Rattle.transmitter_state.specs.declared.sending.Standing.{Standing}
use Rattle.transmitter_state.specs.declared.state.Shifter.{Shifter}
use Rattle.transmitter_state.specs.declared.state.Transmitter.{Transmitter}
use Rattle.transmitter_state.specs.State.{idle_phase, sending, in_break, after_break, with_holding, with_phase}
use Rattle.transmitter_state.specs.State.{with_shifter, with_left, with_asked}

-- "CTS (if chosen; IP0 for A, IP1 for B) is low": MR2 bit 4 chooses it
abbrev pub clear_to_send : Standing → Bool
clear_to_send s = not (eqb (s.mr2 / 16 % 2) 1) || not s.cts

-- "A character starts on a pulse if enabled, idle, the holding place is full and CTS .. is low": what is asked of one
-- that is idle
abbrev pub can_start : Transmitter → Standing → Bool
can_start t s = t.enabled && t.full && clear_to_send s

-- "Format and 16X or 1X are taken when a character starts": its frame, of which the start bit's first pulse has come
unfoldable pub taken_of : ℕ → Standing → Shifter
taken_of byte s =
    record {
      frame = frame_bits_of (format_of s.mr1) byte;
      sixteen = s.sixteen;
      length = frame_length_of s.sixteen (format_of s.mr1) (stop_code_of s.mr2);
      sent = record { 0 = 1 };
    }

-- the character leaves the holding place: "Start bit 0"
abbrev pub started_of : Transmitter → Standing → Transmitter
started_of t s = with_phase (with_shifter (with_holding t false t.holding) (taken_of t.holding s)) sending false

-- "A break begins on a pulse"
abbrev pub break_begun : Transmitter → Transmitter
break_begun t = with_phase (with_asked t false) in_break false

-- nothing to send: the line is high
abbrev pub idle_of : Transmitter → Transmitter
idle_of t = with_phase t idle_phase true

-- A pulse that finds it idle: "A break begins on a pulse, when idle and no character can start".
unfoldable pub begun_of : Transmitter → Standing → Transmitter
begun_of t s = pick (can_start t s) (started_of t s) (pick t.asked (break_begun t) (idle_of t))

-- the bit of a frame that a pulse falls into, both counted from 0
unfoldable pub bit_of_pulse : Bool → Pulses → Bits
bit_of_pulse sixteen p = pick sixteen (record { 0 = p.0 / 16 }) (record { 0 = p.0 })

-- one pulse more of the frame
abbrev pub one_more : Shifter → Shifter
one_more h = record { frame = h.frame; sixteen = h.sixteen; length = h.length; sent = record { 0 = h.sent.0 + 1 } }

-- A pulse while the shifter holds a character: the next level of its frame, and "at the earliest on the pulse after a
-- frame's last" another start.
unfoldable pub sent_on_of : Transmitter → Standing → Transmitter
sent_on_of t s =
    pick (ltb t.shifter.sent.0 t.shifter.length.0)
    (with_phase (with_shifter t (one_more t.shifter)) t.phase
    (level_of t.shifter.frame (bit_of_pulse t.shifter.sixteen t.shifter.sent)))
    (begun_of t s)

-- "and for one bit (16 pulses, or 1) before a start or a new break": "hunting and a break's end go by CSR as it stands"
unfoldable pub held_high : Transmitter → Standing → Transmitter
held_high t s =
    pick s.sixteen (pick (eqb t.left.0 0) (idle_of t) (with_left t (record { 0 = t.left.0 - 1 }))) (idle_of t)

-- One pulse. A phase above 3, which no rule puts there, is idle.
unfoldable pub pulsed_of : Transmitter → Standing → Transmitter
pulsed_of t s =
    pick (eqb t.phase sending) (sent_on_of t s)
    (pick (eqb t.phase in_break) t
    (pick (eqb t.phase after_break) (held_high t s)
    (begun_of t s)))
