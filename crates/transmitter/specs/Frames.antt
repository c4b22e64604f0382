-- What is owed of a transmitter over any list of inputs, said of any way `step` to take an input, so that it can be
-- proved of one and proved false of others: a character that can start does start, and TxD then has the levels of its
-- frame, one a pulse. Assumes nothing.
use Rattle.std.specs.Prelude.{ℕ, suc, ◌-◌, ◌<◌, ◌≡◌, Bool, true, false, not, ◌&&◌, List, [], ◌∷◌, ◌++◌, eqb, ltb, leb}
use Rattle.std.specs.Prelude.{length, get_or, replicate}
use Rattle.format.specs.Pick.{pick}
use Rattle.format.specs.Format.{format_of, stop_code_of}
use Rattle.frame.specs.Levels.{frame}
use Rattle.transmitter_state.specs.declared.sending.Standing.{Standing}
use Rattle.transmitter_state.specs.declared.state.Transmitter.{Transmitter}
use Rattle.transmitter_state.specs.State.{sending, in_break, after_break, with_holding}
use Rattle.transmitter_state.specs.Sending.{clear_to_send, can_start, idle_of}
use Rattle.transmitter.specs.declared.transmitter.Input.{Input}
use Rattle.transmitter.specs.declared.transmitter.Input.TheVariants.{Nothing, Pulse, Write, Enable, Disable}
use Rattle.transmitter.specs.declared.transmitter.Input.TheVariants.{StartBreak, StopBreak, Reset, ChipReset}
use Rattle.transmitter.specs.declared.transmitter.Input.TheVariants.{ModeChange}
use Rattle.transmitter.specs.Status.{shifter_empty}

-- ---- lists of inputs ----

-- a way to take an input
abbrev pub Step : Type 0
Step = Transmitter → Input → Transmitter

-- the transmitter after some inputs
unfoldable pub after : Step → Transmitter → List Input → Transmitter
after step t [] = t
after step t (x ∷ xs) = after step (step t x) xs

abbrev pub is_pulse : Input → Bool
is_pulse Nothing = false
is_pulse (Pulse s) = true
is_pulse (Write byte) = false
is_pulse Enable = false
is_pulse Disable = false
is_pulse StartBreak = false
is_pulse StopBreak = false
is_pulse Reset = false
is_pulse ChipReset = false
is_pulse ModeChange = false

-- how many pulses there are among them
unfoldable pub pulses_in : List Input → ℕ
pulses_in [] = 0
pulses_in (x ∷ xs) = pick (is_pulse x) (suc (pulses_in xs)) (pulses_in xs)

-- TxD after each pulse, in order
unfoldable pub line : Step → Transmitter → List Input → List Bool
line step t [] = []
line step t (x ∷ xs) = pick (is_pulse x) ((step t x).txd ∷ line step (step t x) xs) (line step (step t x) xs)

-- all of them are of a kind
abbrev pub all_of : (Input → Bool) → List Input → Bool
all_of is [] = true
all_of is (x ∷ xs) = is x && all_of is xs

-- any input but a transmitter or chip reset, and a change of mode
abbrev pub keeps : Input → Bool
keeps Nothing = true
keeps (Pulse s) = true
keeps (Write byte) = true
keeps Enable = true
keeps Disable = true
keeps StartBreak = true
keeps StopBreak = true
keeps Reset = false
keeps ChipReset = false
keeps ModeChange = false

abbrev pub no_reset : List Input → Bool
no_reset xs = all_of keeps xs

-- ---- a character that can start ----

-- "idle, .. at the earliest on the pulse after a frame's last": all of a frame has come; or nothing is being sent, no
-- break either, and no high bit is owed
abbrev pub free : Transmitter → Bool
free t =
    pick (eqb t.phase sending) (leb t.shifter.length.0 t.shifter.sent.0)
    (not (eqb t.phase in_break) && not (eqb t.phase after_break))

-- "A character starts on a pulse if enabled, idle, the holding place is full and CTS (if chosen; IP0 for A, IP1 for B)
-- is low"
pub record Startable (t : Transmitter) (s : Standing) : Type 0 where
  pub idle : free t ≡ true
  pub enabled : t.enabled ≡ true
  pub full : t.full ≡ true
  pub clear : clear_to_send s ≡ true

-- the levels of a byte's frame, in the format and with the clock that a pulse finds
abbrev pub frame_at : Standing → ℕ → List Bool
frame_at s byte = frame s.sixteen (format_of s.mr1) (stop_code_of s.mr2) byte

-- ---- the statements ----

-- what a pulse of a frame leaves alone
pub record Undisturbed (t u : Transmitter) : Type 0 where
  pub enabled : u.enabled ≡ t.enabled
  pub full : u.full ≡ t.full
  pub holding : u.holding ≡ t.holding
  pub asked : u.asked ≡ t.asked

-- Once a character has started, whatever else comes but a reset or a change of mode: enable, disable, writes, breaks, CTS, other formats
-- and clocks.
pub record Sends (step : Step) : Type 0 where
  -- TxD after the k-th pulse is level k-1 of its frame, and stays so until the next pulse. The list may end anywhere.
  pub level : (t : Transmitter) (s : Standing) (xs : List Input) → Startable t s → no_reset xs ≡ true
      → pulses_in xs < length (frame_at s t.holding)
      → (after step t (Pulse s ∷ xs)).txd ≡ get_or (frame_at s t.holding) (pulses_in xs) true
  -- as long as its frame lasts the shifter holds it
  pub holds : (t : Transmitter) (s : Standing) (xs : List Input) → Startable t s → no_reset xs ≡ true
      → pulses_in xs < length (frame_at s t.holding)
      → shifter_empty (after step t (Pulse s ∷ xs)) ≡ false
  -- at its start it leaves the holding place, and nothing else is disturbed; nor is anything by its other pulses
  pub leaves : (t : Transmitter) (s : Standing) → Startable t s
      → Undisturbed (with_holding t false t.holding) (step t (Pulse s))
  pub inside : (t : Transmitter) (s : Standing) (xs : List Input) (u : Standing) → Startable t s → no_reset xs ≡ true
      → suc (pulses_in xs) < length (frame_at s t.holding)
      → Undisturbed (after step t (Pulse s ∷ xs)) (step (after step t (Pulse s ∷ xs)) (Pulse u))
  -- after the frame's last pulse another character may start on the next one, and if none can, the shifter is empty
  -- then
  pub over : (t : Transmitter) (s : Standing) (xs : List Input) → Startable t s → no_reset xs ≡ true
      → suc (pulses_in xs) ≡ length (frame_at s t.holding)
      → (free (after step t (Pulse s ∷ xs)) ≡ true)
      × ((u : Standing) → can_start (after step t (Pulse s ∷ xs)) u ≡ false
      → shifter_empty (step (after step t (Pulse s ∷ xs)) (Pulse u)) ≡ true)
  -- none starts but one that can: the transmitter is idle then, TxD high, and as it was in all else
  pub rests : (t : Transmitter) (s : Standing) → free t ≡ true → can_start t s ≡ false → t.asked ≡ false
      → step t (Pulse s) ≡ idle_of t

-- Bytes, each written while the frame before it is sent, after so many more of its pulses than the first.
abbrev pub in_time : ℕ → List (ℕ × ℕ) → Bool
in_time n [] = true
in_time n ((later, byte) ∷ l) = ltb later n && in_time n l

-- all the pulses of a first frame of `n`, and of those of the bytes that are written meanwhile
abbrev pub stream : Standing → ℕ → List (ℕ × ℕ) → List Input
stream s n [] = replicate n (Pulse s)
stream s n ((later, byte) ∷ l) =
    replicate (suc later) (Pulse s) ++ Write byte ∷ replicate (n - suc later) (Pulse s) ++ stream s n l

abbrev pub frames_of : Standing → ℕ → List (ℕ × ℕ) → List Bool
frames_of s first [] = frame_at s first
frames_of s first ((later, byte) ∷ l) = frame_at s first ++ frames_of s byte l

-- Characters written in time go back to back: no pulse lies between their frames.
abbrev pub GoesBackToBack : Step → Type 0
GoesBackToBack step =
    (t : Transmitter) (s : Standing) (first : ℕ) (l : List (ℕ × ℕ)) → free t ≡ true → t.enabled ≡ true
    → clear_to_send s ≡ true
    → in_time (length (frame_at s first)) l ≡ true
    → line step t (Write first ∷ stream s (length (frame_at s first)) l) ≡ frames_of s first l
