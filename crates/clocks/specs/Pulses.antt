-- What is owed of the dividers and of a channel's clocks, said of any way to divide and to clock, so that it can be
-- proved of one and proved false of others: "the next pulse coming a full period later", and each code's own source.
-- Assumes nothing.
use Rattle.std.specs.Prelude.{◌≡◌, ℕ, zero, suc, ◌+◌, ◌*◌, ◌/◌, ◌%◌, ◌<◌, Bool, true, false, ◌&&◌, List, [], ◌∷◌, ◌==◌}
use Rattle.format.specs.declared.counts.Ticks.{Ticks}
use Rattle.format.specs.Digits.{bit}
use Rattle.dividers.specs.declared.divider.Divided.{Divided}
use Rattle.dividers.specs.Rates.{period_of}
use Rattle.clocks.specs.declared.channel.ClockEvent.{ClockEvent}
use Rattle.clocks.specs.declared.channel.Clocked.{Clocked}
use Rattle.clocks.specs.declared.channel.Phases.{Phases}
use Rattle.clocks.specs.Channel.{restarted, is_sixteen}

-- ---- a divider ----

-- a way to take a tick: the phase and the period
abbrev pub Divider : Type 0
Divider = Ticks → Ticks → Divided Ticks

-- the phase after so many ticks from phase 0
unfoldable pub phase_after : Divider → Ticks → ℕ → Ticks
phase_after d n zero = record { 0 = 0 }
phase_after d n (suc m) = (d (phase_after d n m) n).phase

-- whether tick m, counted from 1, is a pulse
abbrev pub pulse_at : Divider → Ticks → ℕ → Bool
pulse_at d n zero = false
pulse_at d n (suc m) = (d (phase_after d n m) n).pulse

-- how many of the first m ticks are
unfoldable pub pulses_by : Divider → Ticks → ℕ → ℕ
pulses_by d n zero = 0
pulses_by d n (suc m) = pulses_by d n m + bit (pulse_at d n (suc m))

-- From phase 0 a divider of period n gives its k-th pulse exactly at tick k·n, and no other.
pub record Divides (d : Divider) : Type 0 where
  pub comes : (n : Ticks) (k : ℕ) → 0 < n.0 → pulse_at d n (suc k * n.0) ≡ true
  pub kth : (n : Ticks) (k : ℕ) → 0 < n.0 → pulses_by d n (k * n.0) ≡ k
  pub no_other : (n : Ticks) (m : ℕ) → 0 < n.0 → pulse_at d n m ≡ true → m ≡ pulses_by d n m * n.0

-- ---- a channel's clocks ----

-- a way to take an event: the phases, ACR bit 7, CSR, and what the event brings
abbrev pub Clock : Type 0
Clock = Phases → Bool → ℕ → ClockEvent → Clocked

pub data Side : Type 0 where
  receives transmits : Side

-- "CSR bits 7-4 receiver, 3-0 transmitter."
abbrev pub code_of : Side → ℕ → ℕ
code_of receives csr = csr / 16
code_of transmits csr = csr % 16

abbrev pub pulsed : Side → Clocked → Bool
pulsed receives c = c.receiver
pulsed transmits c = c.transmitter

-- "receiver on a rising edge .. transmitter on a falling edge"
abbrev pub edge_of : Side → ClockEvent → Bool
edge_of receives b = b.rising
edge_of transmits b = b.falling

-- the phases after some events
unfoldable pub after_events : Clock → Phases → Bool → ℕ → List ClockEvent → Phases
after_events c p second csr [] = p
after_events c p second csr (b ∷ bs) = after_events c (c p second csr b).phases second csr bs

-- how many of them are ticks
unfoldable pub ticks_in : List ClockEvent → ℕ
ticks_in [] = 0
ticks_in (b ∷ bs) = bit b.tick + ticks_in bs

-- how many pulses the transmitter has in them
unfoldable pub sent_in : Clock → Phases → Bool → ℕ → List ClockEvent → ℕ
sent_in c p second csr [] = 0
sent_in c p second csr (b ∷ bs) = bit (c p second csr b).transmitter + sent_in c (c p second csr b).phases second csr bs

-- the next event after some, since a restart
abbrev pub next : Clock → Bool → ℕ → List ClockEvent → ClockEvent → Clocked
next c second csr bs b = c (after_events c restarted second csr bs) second csr b

pub record Clocks (c : Clock) : Type 0 where
  -- codes 0 to 12: a pulse at each period-th tick since the restart, whatever else comes between
  pub fixed : (side : Side) (second : Bool) (csr : ℕ) (bs : List ClockEvent) (b : ClockEvent) → code_of side csr < 13
      → pulsed side (next c second csr bs b)
      ≡ (b.tick && suc (ticks_in bs) % (period_of second (code_of side csr)).0 == 0)
  -- "13: the timer's toggle to high"
  pub timer : (side : Side) (p : Phases) (second : Bool) (csr : ℕ) (b : ClockEvent) → code_of side csr ≡ 13
      → pulsed side (c p second csr b) ≡ b.toggled
  -- "14 (16X), 15 (1X)": the pin's edge
  pub pin : (side : Side) (p : Phases) (second : Bool) (csr : ℕ) (b : ClockEvent) → 13 < code_of side csr
      → pulsed side (c p second csr b) ≡ edge_of side b
  -- the 1X transmitter clock: "every 16th 16X pulse since that phase restarted"
  pub sixteenth : (second : Bool) (csr : ℕ) (bs : List ClockEvent) (b : ClockEvent)
      → is_sixteen (code_of transmits csr) ≡ true
      → (next c second csr bs b).one
      ≡ ((next c second csr bs b).transmitter && suc (sent_in c restarted second csr bs) % 16 == 0)
  -- "or each 1X pulse"
  pub each : (p : Phases) (second : Bool) (csr : ℕ) (b : ClockEvent) → is_sixteen (code_of transmits csr) ≡ false
      → (c p second csr b).one ≡ (c p second csr b).transmitter
