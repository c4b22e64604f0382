-- What is owed of a break, said of any way `step` to take an input: "A break begins on a pulse, when idle and no
-- character can start .. stop, disable or reset ends it, nothing else; .. else TxD is high at once, and for one bit (16
-- pulses, or 1) before a start or a new break." Assumes nothing.
use Rattle.std.specs.Prelude.{suc, ◌-◌, ◌<◌, ◌≡◌, Bool, true, false, not, List, ◌∷◌, ◌++◌, eqb}
use Rattle.format.specs.Pick.{pick}
use Rattle.transmitter_state.specs.declared.sending.Standing.{Standing}
use Rattle.transmitter_state.specs.declared.state.Transmitter.{Transmitter}
use Rattle.transmitter_state.specs.State.{in_break, after_break, with_left, with_asked}
use Rattle.transmitter_state.specs.Sending.{can_start, break_begun, idle_of}
use Rattle.transmitter.specs.declared.transmitter.Input.{Input}
use Rattle.transmitter.specs.declared.transmitter.Input.TheVariants.{Nothing, Pulse, Write, Enable, Disable}
use Rattle.transmitter.specs.declared.transmitter.Input.TheVariants.{StartBreak, StopBreak, Reset, ChipReset}
use Rattle.transmitter.specs.declared.transmitter.Input.TheVariants.{ModeChange}
use Rattle.transmitter.specs.Commands.{high_after}
use Rattle.transmitter.specs.Frames.{Step, after, pulses_in, all_of, free}

-- any input but a stop break, a disable or a reset: "stop, disable or reset ends it, nothing else"; order 2: a mode
-- change drops it
abbrev pub leaves_break : Input → Bool
leaves_break Nothing = true
leaves_break (Pulse s) = true
leaves_break (Write byte) = true
leaves_break Enable = true
leaves_break Disable = false
leaves_break StartBreak = true
leaves_break StopBreak = false
leaves_break Reset = false
leaves_break ChipReset = false
leaves_break ModeChange = false

abbrev pub unended : List Input → Bool
unended xs = all_of leaves_break xs

-- pulses of this clock, and anything else but a chip reset and a change of mode, which drops the bit that is owed
abbrev pub clocked_at : Bool → Input → Bool
clocked_at sixteen Nothing = true
clocked_at true (Pulse s) = s.sixteen
clocked_at false (Pulse s) = not s.sixteen
clocked_at sixteen (Write byte) = true
clocked_at sixteen Enable = true
clocked_at sixteen Disable = true
clocked_at sixteen StartBreak = true
clocked_at sixteen StopBreak = true
clocked_at sixteen Reset = true
clocked_at sixteen ChipReset = false
clocked_at sixteen ModeChange = false

abbrev pub all_at : Bool → List Input → Bool
all_at sixteen xs = all_of (clocked_at sixteen) xs

-- the inputs that end a break and are no chip reset
pub data Ends : Input → Type 0 where
  stops : Ends StopBreak
  disables : Ends Disable
  resets : Ends Reset

-- ---- over lists of inputs ----

pub record Breaks (step : Step) : Type 0 where
  -- "A break begins on a pulse, when idle and no character can start", and TxD is low until a stop, a disable or a
  -- reset
  pub low : (t : Transmitter) (s : Standing) (xs : List Input) → free t ≡ true → can_start t s ≡ false → t.asked ≡ true
      → unended xs ≡ true
      → (after step t (Pulse s ∷ xs)).txd ≡ false
  -- "else TxD is high at once, and for one bit (16 pulses, or 1) before a start or a new break": whatever comes
  -- meanwhile
  pub high : (t : Transmitter) (s : Standing) (xs : List Input) (x : Input) (sixteen : Bool) (ys : List Input)
      → free t ≡ true → can_start t s ≡ false → t.asked ≡ true → unended xs ≡ true → Ends x → all_at sixteen ys ≡ true
      → pulses_in ys < suc (pick sixteen 16 1) → (after step t (Pulse s ∷ xs ++ x ∷ ys)).txd ≡ true
  -- and then a character may start, or a new break begin
  pub done : (t : Transmitter) (s : Standing) (xs : List Input) (x : Input) (sixteen : Bool) (ys : List Input)
      → free t ≡ true → can_start t s ≡ false → t.asked ≡ true → unended xs ≡ true → Ends x → all_at sixteen ys ≡ true
      → pulses_in ys ≡ pick sixteen 16 1 → free (after step t (Pulse s ∷ xs ++ x ∷ ys)) ≡ true

-- ---- input by input ----

-- What each pulse and the end do, and that they do no more: what is held, and the enable, stay.
pub record EachPulse (step : Step) : Type 0 where
  pub begins : (t : Transmitter) (s : Standing) → free t ≡ true → can_start t s ≡ false → t.asked ≡ true
      → step t (Pulse s) ≡ break_begun t
  pub lasts : (t : Transmitter) (s : Standing) → eqb t.phase in_break ≡ true → step t (Pulse s) ≡ t
  pub ends : (t : Transmitter) → eqb t.phase in_break ≡ true → step t StopBreak ≡ high_after (with_asked t false)
  -- "hunting and a break's end go by CSR as it stands": at 16X one pulse of the bit has gone, and the last completes it
  pub counts : (t : Transmitter) (s : Standing) → eqb t.phase after_break ≡ true → s.sixteen ≡ true
      → eqb t.left.0 0 ≡ false
      → step t (Pulse s) ≡ with_left t (record { 0 = t.left.0 - 1 })
  pub completes : (t : Transmitter) (s : Standing) → eqb t.phase after_break ≡ true → s.sixteen ≡ true
      → eqb t.left.0 0 ≡ true → step t (Pulse s) ≡ idle_of t
  -- at 1X this pulse completes it, whatever had gone of it before
  pub completes1x : (t : Transmitter) (s : Standing) → eqb t.phase after_break ≡ true → s.sixteen ≡ false
      → step t (Pulse s) ≡ idle_of t
