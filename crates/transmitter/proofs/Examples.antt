-- What the theorems assume is met by transmitters that come about, and what they then say, computed: a character, a pair back to back,
-- TxEMT, a break and CTS. Assumes nothing.
use Prim.Native.Nat.{ℕ, zero, suc}
use mathlib.Core.Path.{◌≡◌, refl, ap, ◌∙◌}
use mathlib.Core.Bool.{Bool, true, false}
use mathlib.Core.List.{List, [], ◌∷◌, ◌++◌}
use lib.ListN.{length, replicate}
use Rattle.format.specs.Format.{format_of}
use Rattle.format.specs.Pick.{pick}
use Rattle.format.specs.Stop.{stop_bits_of}
use Rattle.frame.specs.Levels.{bits_before_stop_of, spread, frame_length_of}
use Rattle.transmitter_state.specs.declared.sending.Standing.{Standing}
use Rattle.transmitter_state.specs.declared.state.Transmitter.{Transmitter}
use Rattle.transmitter_state.specs.State.{fresh_transmitter}
use Rattle.transmitter_state.specs.Sending.{clear_to_send, can_start, taken_of, begun_of, sent_on_of, held_high, pulsed_of}
use Rattle.transmitter.specs.declared.transmitter.Input.{Input}
use Rattle.transmitter.specs.declared.transmitter.Input.TheVariants.{Pulse, Write, Enable, Disable, StartBreak, StopBreak, Reset}
use Rattle.transmitter.specs.Commands.{written_of, break_ended, dropped_of, break_asked}
use Rattle.transmitter.specs.Transmitter.{after_input}
use Rattle.transmitter.specs.Status.{status_of}
use Rattle.transmitter.specs.Frames.{after, pulses_in, line, no_reset, free, Startable, frame_at, in_time, stream}
use Rattle.transmitter.specs.Breaks.{unended, all_at}
use Rattle.transmitter.specs.Sound.{transmitter_in_range}
use Rattle.transmitter.proofs.Computing.{computing}

-- MR1 19 and MR2 7: 8 data bits, no parity, one stop bit, CTS not chosen; at 16X or 1X
abbrev eight : Bool → Standing
eight sixteen = record { mr1 = 19; mr2 = 7; sixteen = sixteen; cts = false }

-- the same with CTS chosen, and high
abbrev held : Standing
held = record { mr1 = 19; mr2 = 23; sixteen = false; cts = true }

abbrev pulses : Bool → ℕ → List Input
pulses sixteen n = replicate n (Pulse (eight sixteen))

-- enabled after a chip reset, and then some inputs
abbrev from : List Input → Transmitter
from xs = after after_input fresh_transmitter (Enable ∷ xs)

-- A line over pulses alone, in a form that is quick to compute: `line` follows both ways of its `pick`.
abbrev line_over : Standing → ℕ → Transmitter → List Bool
line_over s zero t = []
line_over s (suc n) t = (after_input t (Pulse s)).txd ∷ line_over s n (after_input t (Pulse s))

line_over_lem : (s : Standing) (n : ℕ) (t : Transmitter) → line after_input t (replicate n (Pulse s)) ≡ line_over s n t
unfolding line pick
line_over_lem s zero t = refl
line_over_lem s (suc n) t = ap (λ (l : List Bool). (after_input t (Pulse s)).txd ∷ l) (line_over_lem s n (after_input t (Pulse s)))

-- ---- a character ----

-- 85 is written: the start, its bits and the stop alternate
abbrev written : Transmitter
written = from (Write 85 ∷ [])

abbrev alternate : List Bool
alternate = false ∷ true ∷ false ∷ true ∷ false ∷ true ∷ false ∷ true ∷ false ∷ true ∷ []

can_start_lem : (sixteen : Bool) → Startable written (eight sixteen)
unfolding after after_input written_of pick
can_start_lem sixteen = record { idle = refl; enabled = refl; full = refl; clear = refl }

sixteen_each : line_over (eight true) 160 written ≡ spread 16 alternate
unfolding computing
sixteen_each = refl

record Sent : Type 0 where
  sixteen : line after_input written (pulses true 160) ≡ spread 16 alternate
  frame : frame_at (eight true) 85 ≡ spread 16 alternate
  -- whatever is done meanwhile, but for a reset
  meanwhile : no_reset (Write 1 ∷ Disable ∷ StartBreak ∷ Pulse held ∷ StopBreak ∷ pulses false 8) ≡ true
  last : suc (pulses_in (Write 1 ∷ Disable ∷ StartBreak ∷ Pulse held ∷ StopBreak ∷ pulses false 8)) ≡ length (frame_at (eight false) 85)
  empty : ((status_of (after after_input written (pulses true 160))).empty ≡ false) × ((status_of (after after_input written (pulses true 161))).empty ≡ true)

sent : Sent
unfolding computing
sent = record { sixteen = line_over_lem (eight true) 160 written ∙ sixteen_each; frame = refl; meanwhile = refl; last = refl; empty = (refl, refl) }

-- ---- a pair ----

-- 170 is written after the fourth pulse of 85's frame, and can start on the pulse after its last
abbrev pair : List Input
pair = Write 85 ∷ stream (eight false) 10 ((3, 170) ∷ [])

record Pair : Type 0 where
  idle : free (from []) ≡ true
  clear : clear_to_send (eight false) ≡ true
  time : in_time (length (frame_at (eight false) 85)) ((3, 170) ∷ []) ≡ true
  goes : line after_input (from []) pair ≡ alternate ++ (false ∷ false ∷ true ∷ false ∷ true ∷ false ∷ true ∷ false ∷ true ∷ true ∷ [])
  next : Startable (from (Write 85 ∷ pulses false 4 ++ Write 170 ∷ pulses false 6)) (eight false)

back_to_back : Pair
unfolding computing line
back_to_back =
    record { idle = refl; clear = refl; time = refl; goes = refl; next = record { idle = refl; enabled = refl; full = refl; clear = refl } }

-- ---- a break ----

abbrev asking : Transmitter
asking = from (StartBreak ∷ [])

-- 85 is written while it is sent, and then it is ended
abbrev ended : Input → Bool → Transmitter
ended x sixteen = after after_input asking (Pulse (eight sixteen) ∷ Write 85 ∷ x ∷ [])

record Broken : Type 0 where
  idle : free asking ≡ true
  none : can_start asking (eight true) ≡ false
  asked : asking.asked ≡ true
  low : (after_input asking (Pulse (eight true))).txd ≡ false
  lasts : unended (Write 85 ∷ pulses true 3) ≡ true
  -- the start is on the pulse after the sixteenth, at 1X after the first
  sixteen : line_over (eight true) 17 (ended StopBreak true) ≡ replicate 16 true ++ (false ∷ [])
  once : line_over (eight false) 2 (ended StopBreak false) ≡ true ∷ false ∷ []
  -- five at 16X, and one at 1X that completes the bit: the start is on the next
  mixed : line_over (eight false) 2 (after after_input (ended StopBreak true) (pulses true 5)) ≡ true ∷ false ∷ []
  clock : (all_at true (Disable ∷ Enable ∷ pulses true 16) ≡ true) × (all_at false (pulses false 1) ≡ true)
  -- after a disable it waits for an enable; a reset has dropped it
  disabled : (line_over (eight false) 2 (ended Disable false) ≡ true ∷ true ∷ []) × ((ended Disable false).full ≡ true)
  reset : (line_over (eight false) 2 (ended Reset false) ≡ true ∷ true ∷ []) × ((ended Reset false).full ≡ false)

broken : Broken
unfolding after after_input written_of break_ended dropped_of break_asked held_high pulsed_of begun_of pick
broken =
    record {
      idle = refl;
      none = refl;
      asked = refl;
      low = refl;
      lasts = refl;
      sixteen = refl;
      once = refl;
      mixed = refl;
      clock = (refl, refl);
      disabled = (refl, refl);
      reset = (refl, refl);
    }

-- ---- CTS ----

-- high, and chosen: no start, and a break that is asked begins
record Held : Type 0 where
  none : can_start written held ≡ false
  waits : after_input written (Pulse held) ≡ written
  breaks : (after after_input written (StartBreak ∷ Pulse held ∷ [])).phase ≡ 2
  low : (after after_input written (StartBreak ∷ Pulse held ∷ [])).txd ≡ false
  kept : (after after_input written (StartBreak ∷ Pulse held ∷ [])).full ≡ true

holds : Held
unfolding after after_input written_of break_asked pulsed_of begun_of pick
holds = record { none = refl; waits = refl; breaks = refl; low = refl; kept = refl }

-- ---- a transmitter in range ----

in_range : transmitter_in_range (after after_input written (pulses false 10)) ≡ true
unfolding after after_input written_of pulsed_of sent_on_of begun_of taken_of pick format_of frame_length_of bits_before_stop_of stop_bits_of
in_range = refl
